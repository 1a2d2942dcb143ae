-- The names of std, of the machine and of the specs that the proofs here cite, passed on from one place.
pub use Rattle.generational_core.proofs.machine.Calls.{ends, made, made_apart, seen_reached, sets}
pub use Rattle.generational_core.proofs.machine.Calls.Steps.{led_box, made_new, reaches}
pub use Rattle.generational_core.proofs.machine.Calls.Steps.Changes.{some_live}
pub use Rattle.generational_core.proofs.machine.{quiet_ends, quiet_sees, same_value, Calls.unseen}
pub use Rattle.generational_core.specs.Borrowing.{can_write}
pub use Rattle.generational_core.specs.Machine.Action.{End, Make, SetValue}
pub use Rattle.generational_core.specs.Machine.Answer.{Done, Made, Old}
pub use Rattle.generational_core.specs.State.{IsSound as IsSoundStore, State}
pub use Rattle.generational_core.specs.declared.boxes.GenerationalBox.{GenerationalBox}
pub use Rattle.generational_core.specs.declared.boxes.GenerationalBoxId.{GenerationalBoxId}
pub use Rattle.generational_core.specs.declared.boxes.GenerationalPointer.{GenerationalPointer}
pub use Rattle.generational_core.specs.{Keeping.box_with, Conditions.IsFresh, Slots.last_name, Steps.Meets}
pub use Rattle.generational_core.specs.{Boxes.name_of, Answers.pointer_of, Seeing.value_in}
pub use Rattle.generational_errors.specs.declared.error.Location.{Location}
use Rattle.generational_laws.proofs.callers as laws
pub use laws.{found_sees, free_seen, fresh_sees, fresh_simple, made_simple, make_short}
pub use laws.{one_id, seen_cell, others_left, reach_apart, same_id_reach, same_id_sees, seen_store, simple_still}
pub use laws.{stuck_unseen}
pub use Rattle.generational_laws.specs.PlainStores.{IsSimple}
pub use Rattle.reactive.specs.Graphs.{GraphState, IsGraphKept, kind_by, kind_by_rule}
pub use Rattle.reactive.specs.Graphs.{kind_in, kinds_of, lives, plans_in, shown_in}
pub use Rattle.reactive.specs.Flushing.{HasListened}
pub use Rattle.dirty_slots.specs.Blocks.{AreSameSlots, AreDoubted, HasFlagged, clean_at, flag_at, IsIn}
pub use Rattle.reactive.specs.Watching.{AreHeard, AreDirtied, effect_at}
pub use Rattle.reactive.specs.Hearing.{IsNoShortage, IsRight, IsTrueOf, Listens, telling}
pub use Rattle.dirty_slots.specs.declared.slots.DirtySlots.{DirtySlots}
pub use Rattle.reactive.specs.Graphs.Kind.{NoNode}
pub use Rattle.reactive.specs.Meaning.{AllMean, Yields, gives, goes_on, Graph, IsMute, plan_value, value_from}
pub use Rattle.reactive.specs.Meaning.{arrives, comes_by, GivesNone, NeedsItself, Reaches}
pub use Rattle.reactive.specs.Plans.{AreGiven, Ask, Asked, Follows, Give, Plan, Ran, Stop}
pub use Rattle.reactive.specs.Graphs.{Kind}
pub use Rattle.reactive.specs.Refreshing.{Answers, Blames, IsAdvanced, IsOnTheWay, Refreshed}
pub use Rattle.reactive.specs.Tables.{AllStand, AreKnown, AreLinked, asked_of, book, book_by, Book, graph_of, IsMemoKnown, IsNodeKnown, IsPut, shown_from}
pub use Rattle.reactive.specs.Links.{AreNumbered, edges_by, Leans, leans_by, leans_itself}
pub use Rattle.reactive.specs.declared.links.Mark.{Mark}
pub use Rattle.reactive.specs.Links.{HasForgotten, holds, IsSlotLinked, IsRelinked, Keeps, known_at, knows, owner_at, Owns}
pub use Rattle.reactive.specs.declared.links.Web.{Web}
pub use Rattle.std.specs.List.{Contains}
pub use Rattle.reactive.specs.Tables.{IsSound, IsWalk, known_by, known_of, nodes_in, plan_at}
pub use Rattle.reactive.specs.Tables.{plan_by, key_pointer, Shows, IsStillValid, NodeTable}
pub use Rattle.reactive.specs.{Chains.AllGoOn, Hearing.AllHear, Chains.Chain, Chains.IsOn}
pub use Rattle.reactive.specs.Blaming.{AreBlamed, AreTrue, IsAtFault, IsGraphWhole}
pub use Rattle.reactive.specs.declared.blame.Blame.{Blame}
pub use Rattle.stamped_values.specs.Stamps.{stamped_at}
pub use Rattle.reactive.specs.{declared.effects.Effect.Effect, declared.fault.Fault.Fault}
pub use Rattle.reactive.specs.{declared.look.Frame.Frame, Chains.GoesOn, Ending.HasLostKeys}
pub use Rattle.reactive.specs.Ending.{AreForgotten, AreSpared}
pub use Rattle.reactive.specs.Looks.{RunFinds, IsFoundBy}
pub use Rattle.reactive.specs.declared.look.Found.{Found}
pub use Rattle.reactive.specs.{Hearing.Hears, Ending.IsKeyAmong, Looks.IsAsked}
pub use Rattle.reactive.specs.{Changing.IsResetTo, Settling.IsNodeSettled, declared.key.Key.Key}
pub use Rattle.reactive.specs.Settling.{IsLearned, IsLeft, Lasts}
pub use Rattle.reactive.specs.{Looks.PlanLeadsTo, Settling.LeavesBook, Meaning.Means, Meaning.Needs}
pub use Rattle.reactive.specs.{declared.node.Node.Node, Hearing.Says}
pub use Rattle.reactive.specs.{declared.look.Step.Step, Looks.Stepped, declared.effects.Told.Told}
pub use Rattle.std.proofs.Common.{add-one, ap, append_assoc, arith, Bool, drop, eq-eqb, eqb-true}
pub use Rattle.std.proofs.Common.{Err, false, get_or, inl, inr, length, List, None, Ok, Option}
pub use Rattle.std.proofs.Common.{refl, Result, rules, set, Some, subst, suc, sym, take, true, zero}
pub use Rattle.std.proofs.Common.{ℕ, [], ⊎_elim, ◌++◌, ◌+◌, ◌<◌, ◌∙◌, ◌∷◌, ◌≡◌, ◌≢◌, ◌≤◌}
pub use Rattle.std.proofs.lemmas.Bool.{cases_eq, true≢false}
pub use Rattle.std.proofs.lemmas.Bool.Decides.{eqb_tells}
pub use Rattle.std.specs.Prelude.{nat_eq}
pub use Rattle.std.proofs.lemmas.List.{append-nil, get_or-set_other, get_or-set_same, map_push, nil_from_length, set-get_or, take_more}
pub use Rattle.std.proofs.lemmas.Option.{none-some, same_Some, slice_get-get_or}
pub use Rattle.std.proofs.{Math.Seq.take-append_seam}
pub use Rattle.std.specs.Prelude.{IfErr, IfNone, IfOk, IfSome, is_some, map as list_map, OnErr}
pub use Rattle.std.specs.Prelude.{OnOk, option_copied, slice_get, slice_index_or, ◌⊎◌}
pub use Rattle.std.specs.{Borrow.Bor, Global.Vec, Vec.vec_items}
