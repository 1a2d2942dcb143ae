-- The names of std, of the machine and of the specs that most proofs here cite, passed on from one place.
pub use Rattle.generational_core.proofs.machine.{given_other, lasts_insert, no_slots, quiet_ends, slot_within as cell_within}
pub use Rattle.generational_core.proofs.machine.{quiet_sees, same_value, slot_apart, slot_made}
pub use Rattle.generational_core.proofs.machine.{test_sees}
pub use Rattle.generational_core.proofs.machine.Calls.{ends, meets_tells, refused_make, seen_reached, sets, unseen}
use Rattle.generational_core.proofs.machine.Calls.Steps
pub use Steps.{act_start, close_one, made_new, meets_cases, meets_given, meets_number, reaches}
pub use Rattle.generational_core.proofs.machine.Calls.Steps.Changes.{is_making, some_live}
pub use Rattle.generational_core.proofs.machine.Calls.Steps.Changes.{sound_linked}
pub use Rattle.generational_core.proofs.maps.Maps.{name_total}
pub use Rattle.generational_core.specs.Machine.{Action, Answer, own_name}
pub use Rattle.generational_core.specs.Machine.Action.{End, Make, SetValue}
pub use Rattle.generational_core.specs.Machine.Answer.{Done, Made, Old}
pub use Rattle.generational_core.specs.Names.{Name, name_cmp, NameMap}
pub use Rattle.generational_core.specs.declared.boxes.GenerationalPointer.{GenerationalPointer}
pub use Rattle.generational_core.specs.{Cells.Cell, Ending.close, Cells.Content, Conditions.fresh}
pub use Rattle.generational_core.specs.{State.IsSound, Steps.Meets, Boxes.name_of}
pub use Rattle.generational_core.specs.{Slots.slots, Slots.slots_of, State.IsGiven, Boxes.name_in}
pub use Rattle.generational_core.specs.declared.boxes.GenerationalBoxId.{GenerationalBoxId}
pub use Rattle.generational_core.specs.{State.State, Cells.Cell.Value}
unfoldable pub use Rattle.generational_core.specs.{Names.change, Borrowing.reach, Seeing.value_in}
pub use Rattle.generational_errors.specs.declared.error.Location.{Location}
use Rattle.generational_laws.proofs.callers as laws
pub use laws.{fresh_sees, fresh_simple, get_pushed, made_simple, making, others_left}
pub use laws.{pushed_old, reach_apart, same_id_sees, seen_cell, seen_store, set_seen}
pub use laws.{simple_still, simple_taken, taken_seen}
pub use Rattle.generational_laws.specs.PlainStores.{IsSimple}
pub use Rattle.scene_tree.specs.Chains.{after_put, after_tied, alone_at, before_put, chain, changed, first_of}
pub use Rattle.scene_tree.specs.Chains.{head_or, IsChain, IsHeld, LinkState, last_link_of, last_or, node_in, noted}
pub use Rattle.scene_tree.specs.Families.{above, alone, children_at, count_at, families, Family}
pub use Rattle.scene_tree.specs.Families.{family_at, family_in, IsAmong, IsAttached, IsCleared}
pub use Rattle.scene_tree.specs.Families.{IsCut, IsDetached, IsForest, IsGap, IsInLevels, AreChildrenLinked}
pub use Rattle.scene_tree.specs.Families.{IsOpened, IsRooted, IsSpotIn, IsUnder, parent_at, slot_of}
pub use Rattle.scene_tree.specs.Keeping.{AreNodesNoted, HasLostNodes, HasMade, IsTreeKept, IsLiveIn}
pub use Rattle.handles.proofs.Told.{told_here, told_more}
pub use Rattle.handles.specs.Sites.{SiteState, TellsLocation, told_at, told_in}
pub use Rattle.location_list.specs.Locations.{IsAt}
pub use Rattle.std.specs.Cmp.{nat_eq_equiv}
pub use Rattle.handles.specs.Handles.{at_slot, id_in, is_same, IsOther, IsSame, pointer_in, slot_in}
pub use Rattle.scene_tree.specs.Nodes.{Node, number_in, times}
pub use Rattle.scene_tree.specs.Packing.{parent_in, slot_named, unpacked, unpacked_from}
pub use Rattle.scene_tree.specs.declared.node.NodeKind.{NodeKind}
pub use Rattle.scene_tree.specs.declared.packed.PackedLink.{PackedLink}
pub use Rattle.scene_tree.specs.Rows.{behind, IsRowPlaced, rows_at, waiting}
pub use Rattle.scene_tree.specs.Trees.{AreAll, AreAncestors, AreRoots, CanMove, children_of, live_count}
pub use Rattle.scene_tree.specs.Trees.{created_at, KeepsNodeLocations, stale_of}
pub use Rattle.scene_tree.specs.Trees.{family_of, is_live, IsBelow, IsRootedIn, IsStepsBelow}
pub use Rattle.scene_tree.specs.Trees.{IsSubtree, IsTree, NodeIsUnchanged, parent_for, parent_of}
pub use Rattle.scene_tree.specs.Walking.{IsRest, IsNodeWithin, way_up}
pub use Rattle.scene_tree.specs.{Meeting.is_met, declared.links.Link.Link, Meeting.met, Spots.named}
pub use Rattle.scene_tree.specs.{Spots.placed, declared.spot.Spot.Spot}
pub use Rattle.scene_tree.specs.{Chains.tie_of, Trees.TreeState, Trees.value_of, Nodes.without}
unfoldable pub use Rattle.scene_tree.specs.{Trees.outline_of, Rows.rows}
pub use Rattle.std.proofs.Common.{ap, append-nil, append_assoc, arith, Bool, cond, drop, eq-eqb}
pub use Rattle.std.proofs.Common.{Err, false, get_or, inl, inr, length, length-append, List, None}
pub use Rattle.std.proofs.Common.{Ok, Option, refl, rules, Some, subst, suc, sym, take, take_all}
pub use Rattle.std.proofs.Common.{true, true≢false, zero, ℕ, [], ⊎_elim, ◌++◌, ◌+◌, ◌-◌, ◌<◌, ◌∙◌}
pub use Rattle.std.proofs.lemmas.Bool.{and_parts, cases_Bool, cases_eq, cases_lt, eqb-true, or_left}
pub use Rattle.std.proofs.lemmas.Iterator.Consumers.{YieldsList-end, YieldsList-from_first}
pub use Rattle.std.proofs.lemmas.List.{flat_map_more, length-map, map-id, take-append-le, take_more}
pub use Rattle.std.proofs.lemmas.List.Sums.{sum_by-append, sum_by-cons, sum_by-take-drop}
pub use Rattle.std.proofs.lemmas.Map.Steps.{le-length_from_below, length-le_from_distinct_below}
pub use Rattle.std.proofs.lemmas.Option.{none-some, same_Some, slice_get-get_or, slice_get-map}
pub use Rattle.std.proofs.lemmas.Option.{slice_get_read, slice_get_within, unwrap_or-slice_get}
pub use Rattle.std.proofs.{lemmas.Bool.Decides.eqb_tells, lemmas.List.Elements.filter-append}
pub use Rattle.std.proofs.{Math.ListN.get_or-eq_default, lemmas.Result.IfOk-weaker}
pub use Rattle.std.proofs.{lemmas.Bool.or_right, lemmas.List.Sums.sum_by-take-le, Common.◌∷◌}
pub use Rattle.std.proofs.{Common.◌≡◌, Common.◌≢◌, Common.◌≤◌}
pub use Rattle.std.specs.List.{AllByRecursion, flat_map, insert, list_any}
pub use Rattle.std.specs.Prelude.{filter, IfOk, is_some, map, nat_eq, Result, slice_get}
pub use Rattle.std.specs.Prelude.{slice_index_or, slice_set, ◌&&◌, ◌↔◌, ◌⊎◌}
pub use Rattle.std.specs.{Ordering.nat_cmp, Cmp.nat_cmp_total, Option.option_map}
unfoldable pub use Rattle.std.specs.List.{IsDistinct}
