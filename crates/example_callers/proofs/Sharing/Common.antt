-- The names that these proofs take from below, passed on from one place.
pub use Rattle.generational_core.proofs.machine.{frees_owned, given_other, leaves, quiet_ends}
pub use Rattle.generational_core.proofs.machine.{quiet_stays, release_leaves, same_value, slots_are}
pub use Rattle.generational_core.proofs.machine.{test_sees}
use Rattle.generational_core.proofs.machine.Calls
pub use Calls.{ended, ended_owned, ends_free, keeps, keeps_free, keeps_known, lends, lends_free}
pub use Calls.{listed_last, lists, made, made_free, made_shared, made_shared_free, opens_free}
pub use Calls.{opens_value, owned, points_seen, reached_boxed, read_leaves, reader_sees, reads_back}
pub use Calls.{referred, referred_apart, referred_together, refused_end, refused_free_read}
pub use Calls.{refused_make, refused_read, refused_refer, refused_write, seen_reached, set_beside}
pub use Calls.{set_seen, sets, writes_back}
pub use Rattle.generational_core.proofs.machine.Calls.Steps.{free_reads, free_sees, meets_given}
pub use Rattle.generational_core.proofs.machine.Calls.Steps.{reads_known}
pub use Rattle.generational_core.proofs.maps.Maps.{name_apart, name_same}
use Rattle.generational_core.specs
pub use specs.Machine.Action.{Make, MakeShared, Refer, ReleaseWriter, Write}
pub use specs.declared.boxes.GenerationalBoxId.{GenerationalBoxId}
pub use specs.declared.boxes.GenerationalPointer.{GenerationalPointer}
pub use specs.{Leaving.AreFree, Machine.Answer.Back, Answers.box_answer, Keeping.box_with}
pub use specs.{Borrowing.can_write, declared.boxes.GenerationalBox.GenerationalBox, State.IsGiven}
pub use specs.{State.IsSound, Leaving.IsUnchanged, Steps.last_ticket, Machine.Answer.Made}
pub use specs.{Steps.Meets, Names.Name, Boxes.name_of, Machine.OwnerName, Machine.ownership}
pub use specs.{State.Ownership, Answers.pointer_of, Borrowing.reach, State.State, Seeing.value_in}
pub use specs.{Answers.WriteGuard, Machine.Answer.Writes}
pub use Rattle.generational_errors.specs.declared.{error.Location.Location, error.Refusal.Refusal}
use Rattle.generational_laws.proofs.callers
pub use callers.{each_at, empty_again, ended_next, ended_row, found_sees, free_read_lacks}
pub use callers.{left_given, left_still, left_twice, made_last, made_next, make_lacks, make_short}
pub use callers.{none_so, on_ok_so, reach_apart, read_beside, read_short, refer_short}
pub use callers.{referred_free, referred_next, release_beside, set_free, share_short, shared_apart}
pub use callers.{shares, shown_at, some_so, stays_listed, stays_plain, taken_seen, write_short}
pub use callers.{written_by}
pub use Rattle.generational_laws.specs.{BoxRows.IsFree}
pub use Rattle.generational_sessions.specs.{Places.as_replies, Session.box_held}
pub use Rattle.generational_laws.specs.{BoxRows.shown_in}
pub use Rattle.generational_sessions.specs.{Session.Run}
pub use Rattle.std.proofs.Common.{ap, arith, Err, false, IfNone, IfSome, List, None, Ok, Option}
pub use Rattle.std.proofs.Common.{refl, rules, slice_get, Some, subst, sym, true, ℕ, [], ⊎_elim}
pub use Rattle.std.proofs.{lemmas.Grind.common_steps, lemmas.Option.IfSome_then}
pub use Rattle.std.proofs.{lemmas.Bool.or_cases, lemmas.Option.same_Some, lemmas.Bool.true≢false}
pub use Rattle.std.proofs.{Common.◌+◌, Common.◌||◌, Common.◌∙◌, Common.◌∷◌, Common.◌≡◌, Common.◌≢◌}
pub use Rattle.std.specs.Prelude.{is_some, Result, ◌-◌}
