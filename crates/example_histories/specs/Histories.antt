-- Worked rows of the machine: histories that start from a fresh store.
use Rattle.std.specs.Prelude.{◌∷◌, [], true, false, None, Some, ◌-◌, ◌^◌}
use Rattle.std.specs.FinMap as map
use Rattle.std.specs.FinSet as set
use Rattle.generational_errors.specs.declared.error.Location.{Location}
use Rattle.generational_core.specs.Names.{Name}
use Rattle.generational_errors.specs.declared.error.StoreError.TheVariants.{UnknownOwner}
use Rattle.generational_errors.specs.declared.error.StoreError.TheVariants.{NumbersExhausted}
use Rattle.generational_core.specs.Cells.Cell.{Value}
use Rattle.generational_core.specs.Cells.Content.{Here}
use Rattle.generational_core.specs.State.{State}
use Rattle.generational_core.specs.Conditions.{fresh}
use Rattle.generational_core.specs.Boxes.{box_of}
use Rattle.generational_core.specs.Borrowing.BorrowRefusal.{Dropped, BeingRead, BeingWritten}
use Rattle.generational_core.specs.Machine.Action.{Make, MakeShared, Refer, NewOwner, CloneOwner}
use Rattle.generational_core.specs.Machine.Action.{ReleaseOwner, LeakOwner, Read, Write}
use Rattle.generational_core.specs.Machine.Action.{ReleaseReader, ReleaseWriter, SetValue, End}
use Rattle.generational_core.specs.Machine.Action.{Point, CanRead, CanWrite}
use Rattle.generational_core.specs.Machine.Answer.{Made, Owned, Reads, Writes, Done, Old, Flag}
use Rattle.generational_core.specs.Machine.Answer.{Back, BorrowRefused, Refused}
use Rattle.example_histories.specs.Rows.{Row, box, owner, guard, ◌#◌, ◌⇒◌, ◌takes◌⇒◌, ◌takes◌and◌⇒◌}
use Rattle.example_histories.specs.Rows.{◌lacks◌, ◌opens◌, count_is}
use Rattle.example_histories.specs.SessionRows.{SessionRow, ◌answers◌, ◌gives◌answers◌}
use Rattle.generational_sessions.specs.declared.calls.BoxAt.TheVariants.{Place}
use Rattle.generational_sessions.specs.declared.calls.Call.TheVariants as call
use Rattle.generational_sessions.specs.Session.SessionReply.{ABox, AnOwner, AReader, AWriter, IsDone}
use Rattle.generational_sessions.specs.Session.SessionReply.{TheOld, Error, NoSuch}

module _ {T : Type 0} (u v w : T) (L M R W : Location) where
  -- ---- owners, slots, strangers, and numbers that run out

  -- An outer owner's reference still reads the value when the owner of its first box was released.
  -- When the outer one is released too, all three cells have ended.
  abbrev pub a_reference_outlives_its_first_owner : Row T
  a_reference_outlives_its_first_owner =
      NewOwner ⇒ Owned (owner 0)
      ∷ NewOwner ⇒ Owned (owner 1)
      ∷ MakeShared (Some (owner 0)) v L takes 0 # 1 and 1 # 1 ⇒ Made (box (1 # 1) L)
      ∷ Refer (Some (owner 1)) (box (1 # 1) M) takes 2 # 1 ⇒ Made (box (2 # 1) L)
      ∷ count_is 3 0 0 3 3
      ∷ ReleaseOwner (owner 0) ⇒ Done
      ∷ Read (box (2 # 1) L) R ⇒ Reads (guard (0 # 1) 2)
      ∷ guard (0 # 1) 2 opens Some v
      ∷ ReleaseReader (guard (0 # 1) 2) ⇒ Flag true
      ∷ ReleaseOwner (owner 1) ⇒ Done
      ∷ Read (box (2 # 1) L) R ⇒ BorrowRefused (Dropped L)
      ∷ count_is 3 3 0 0 3 ∷ []

  -- An owner's box of a shared value ends under a reader if an outside reference keeps the value, and the
  -- reader's guard still opens it.
  abbrev pub a_borrow_of_what_lives_on_hinders_no_release : Row T
  a_borrow_of_what_lives_on_hinders_no_release =
      NewOwner ⇒ Owned (owner 0)
      ∷ MakeShared (Some (owner 0)) v L takes 0 # 1 and 1 # 1 ⇒ Made (box (1 # 1) L)
      ∷ Refer None (box (1 # 1) L) takes 2 # 1 ⇒ Made (box (2 # 1) L)
      ∷ Read (box (1 # 1) L) R ⇒ Reads (guard (0 # 1) 1)
      ∷ ReleaseOwner (owner 0) ⇒ Done
      ∷ guard (0 # 1) 1 opens Some v
      ∷ Read (box (1 # 1) L) R ⇒ BorrowRefused (Dropped L)
      ∷ count_is 3 1 0 2 3
      ∷ Write (box (2 # 1) L) M ⇒ BorrowRefused (BeingRead (R ∷ [])) ∷ []

  -- An owner's last release fails while its second box is read, and its first box can still be read.
  -- Without the reader both boxes end.
  abbrev pub a_release_under_a_reader_changes_nothing : Row T
  a_release_under_a_reader_changes_nothing =
      NewOwner ⇒ Owned (owner 0)
      ∷ Make (Some (owner 0)) v L takes 0 # 1 ⇒ Made (box (0 # 1) L)
      ∷ Make (Some (owner 0)) w M takes 1 # 1 ⇒ Made (box (1 # 1) M)
      ∷ Read (box (1 # 1) M) R ⇒ Reads (guard (1 # 1) 1)
      ∷ ReleaseOwner (owner 0) ⇒ BorrowRefused (BeingRead (R ∷ []))
      ∷ Read (box (0 # 1) L) L ⇒ Reads (guard (0 # 1) 2)
      ∷ guard (0 # 1) 2 opens Some v
      ∷ ReleaseReader (guard (0 # 1) 2) ⇒ Flag true
      ∷ ReleaseReader (guard (1 # 1) 1) ⇒ Flag true
      ∷ ReleaseOwner (owner 0) ⇒ Done
      ∷ Read (box (0 # 1) L) R ⇒ BorrowRefused (Dropped L)
      ∷ Read (box (1 # 1) M) R ⇒ BorrowRefused (Dropped M)
      ∷ count_is 2 2 0 0 2 ∷ []

  -- With a clone the first release ends no box, and the second ends it; a third finds no owner.
  abbrev pub the_last_release_ends_the_boxes : Row T
  the_last_release_ends_the_boxes =
      NewOwner ⇒ Owned (owner 0)
      ∷ Make (Some (owner 0)) v L takes 0 # 1 ⇒ Made (box (0 # 1) L)
      ∷ CloneOwner (owner 0) ⇒ Owned (owner 0)
      ∷ ReleaseOwner (owner 0) ⇒ Done
      ∷ Read (box (0 # 1) L) R ⇒ Reads (guard (0 # 1) 2)
      ∷ guard (0 # 1) 2 opens Some v
      ∷ ReleaseReader (guard (0 # 1) 2) ⇒ Flag true
      ∷ ReleaseOwner (owner 0) ⇒ Done
      ∷ Read (box (0 # 1) L) R ⇒ BorrowRefused (Dropped L)
      ∷ ReleaseOwner (owner 0) ⇒ Refused UnknownOwner ∷ []

  -- If one of two owner values is leaked, the release of the other removes no box.
  abbrev pub a_leaked_clone_keeps_the_boxes : Row T
  a_leaked_clone_keeps_the_boxes =
      NewOwner ⇒ Owned (owner 0)
      ∷ Make (Some (owner 0)) v L takes 0 # 1 ⇒ Made (box (0 # 1) L)
      ∷ CloneOwner (owner 0) ⇒ Owned (owner 0)
      ∷ LeakOwner (owner 0) ⇒ Done
      ∷ ReleaseOwner (owner 0) ⇒ Done
      ∷ Read (box (0 # 1) L) R ⇒ Reads (guard (0 # 1) 2)
      ∷ guard (0 # 1) 2 opens Some v ∷ []

  -- If the next ticket is the last number, a call that needs one fails, and all other calls go on.
  abbrev pub the_last_ticket_is_never_given : Row T
  the_last_ticket_is_never_given =
      Make None v L takes 0 # 1 ⇒ Made (box (0 # 1) L)
      ∷ Read (box (0 # 1) L) R ⇒ Refused NumbersExhausted
      ∷ Write (box (0 # 1) L) R ⇒ Refused NumbersExhausted
      ∷ NewOwner ⇒ Refused NumbersExhausted
      ∷ CanWrite (box (0 # 1) L) ⇒ Flag true
      ∷ SetValue (box (0 # 1) L) w ⇒ Old v
      ∷ End (box (0 # 1) L) ⇒ Done
      ∷ Read (box (0 # 1) L) R ⇒ BorrowRefused (Dropped L) ∷ []

  -- One ticket remains for an owner, and none for its clone.
  abbrev pub the_ticket_before_the_last_is_given : Row T
  the_ticket_before_the_last_is_given =
      NewOwner ⇒ Owned (owner (2 ^ 64 - 2))
      ∷ CloneOwner (owner (2 ^ 64 - 2)) ⇒ Refused NumbersExhausted
      ∷ ReleaseOwner (owner (2 ^ 64 - 2)) ⇒ Done
      ∷ CloneOwner (owner (2 ^ 64 - 2)) ⇒ Refused UnknownOwner ∷ []

  -- A call on a box of another store fails with the box's own location, even if its name is live here;
  -- its removal, a `set`, and a `point_to` change nothing.
  abbrev pub boxes_of_another_store_reach_nothing : Row T
  boxes_of_another_store_reach_nothing =
      MakeShared None v M takes 0 # 1 and 1 # 1 ⇒ Made (box (1 # 1) M)
      ∷ Read (box_of 8 (1 # 1) L) R ⇒ BorrowRefused (Dropped L)
      ∷ Write (box_of 8 (1 # 1) L) R ⇒ BorrowRefused (Dropped L)
      ∷ SetValue (box_of 8 (1 # 1) L) w ⇒ BorrowRefused (Dropped L)
      ∷ Refer None (box_of 8 (1 # 1) L) ⇒ BorrowRefused (Dropped L)
      ∷ End (box_of 8 (1 # 1) L) ⇒ Done
      ∷ Point (box_of 8 (1 # 1) L) (box (1 # 1) M) ⇒ BorrowRefused (Dropped L)
      ∷ Point (box (1 # 1) M) (box_of 8 (1 # 1) L) ⇒ BorrowRefused (Dropped L)
      ∷ Read (box (1 # 1) M) R ⇒ Reads (guard (0 # 1) 0)
      ∷ guard (0 # 1) 0 opens Some v ∷ []

  -- An owner of another store, with the key of one here, is unknown, and so is such a guard: the borrow
  -- here stays.
  abbrev pub owners_and_guards_of_another_store_are_unknown : Row T
  owners_and_guards_of_another_store_are_unknown =
      NewOwner ⇒ Owned (owner 0)
      ∷ Make (Some (record { store = 8; key = 0 })) v L ⇒ Refused UnknownOwner
      ∷ MakeShared (Some (record { store = 8; key = 0 })) v L ⇒ Refused UnknownOwner
      ∷ CloneOwner (record { store = 8; key = 0 }) ⇒ Refused UnknownOwner
      ∷ ReleaseOwner (record { store = 8; key = 0 }) ⇒ Refused UnknownOwner
      ∷ Make (Some (owner 0)) v L takes 0 # 1 ⇒ Made (box (0 # 1) L)
      ∷ Write (box (0 # 1) L) W ⇒ Writes (guard (0 # 1) 1) v
      ∷ ReleaseWriter (record { store = 8; cell = 0 # 1; ticket = 1 }) w ⇒ Back w
      ∷ ReleaseReader (record { store = 8; cell = 0 # 1; ticket = 1 }) ⇒ Flag false
      ∷ ReleaseReader (guard (0 # 1) 1) ⇒ Flag false
      ∷ Read (box (0 # 1) L) R ⇒ BorrowRefused (BeingWritten W) ∷ []

  -- No reader of the value hinders the removal of one of two references, which leaves the value; a reader
  -- hinders the removal of the last one, which removes the value after that.
  abbrev pub a_value_ends_with_its_last_reference : Row T
  a_value_ends_with_its_last_reference =
      MakeShared None v L takes 0 # 1 and 1 # 1 ⇒ Made (box (1 # 1) L)
      ∷ Refer None (box (1 # 1) L) takes 2 # 1 ⇒ Made (box (2 # 1) L)
      ∷ Read (box (2 # 1) L) R ⇒ Reads (guard (0 # 1) 0)
      ∷ End (box (1 # 1) L) ⇒ Done
      ∷ count_is 3 1 0 2 3
      ∷ End (box (2 # 1) L) ⇒ BorrowRefused (BeingRead (R ∷ []))
      ∷ guard (0 # 1) 0 opens Some v
      ∷ ReleaseReader (guard (0 # 1) 0) ⇒ Flag true
      ∷ End (box (2 # 1) L) ⇒ Done
      ∷ End (box (2 # 1) L) ⇒ Done
      ∷ count_is 3 3 0 0 3 ∷ []

  -- A second box in the slot of a removed one makes no slot; the first stays removed.
  abbrev pub an_ended_slot_is_free_for_another_box : Row T
  an_ended_slot_is_free_for_another_box =
      NewOwner ⇒ Owned (owner 0)
      ∷ Make (Some (owner 0)) v L takes 0 # 1 ⇒ Made (box (0 # 1) L)
      ∷ count_is 1 0 0 1 1
      ∷ ReleaseOwner (owner 0) ⇒ Done
      ∷ count_is 1 1 0 0 1
      ∷ NewOwner ⇒ Owned (owner 1)
      ∷ Make (Some (owner 1)) w M takes 0 # 2 ⇒ Made (box (0 # 2) M)
      ∷ count_is 1 0 0 1 1
      ∷ CanRead (box (0 # 1) L) ⇒ Flag false
      ∷ CanRead (box (0 # 2) M) ⇒ Flag true ∷ []

  -- A slot whose box is removed at the last generation is neither live nor free, and another is made.
  abbrev pub a_slot_that_ends_at_the_last_generation_is_retired : Row T
  a_slot_that_ends_at_the_last_generation_is_retired =
      Make None v L takes 0 # (2 ^ 64 - 1) ⇒ Made (box (0 # (2 ^ 64 - 1)) L)
      ∷ count_is 1 0 0 1 1
      ∷ End (box (0 # (2 ^ 64 - 1)) L) ⇒ Done
      ∷ count_is 1 0 1 0 1
      ∷ Make None w M takes 1 # (2 ^ 64 - 1) ⇒ Made (box (1 # (2 ^ 64 - 1)) M)
      ∷ count_is 2 0 1 1 1
      ∷ Read (box (0 # (2 ^ 64 - 1)) L) R ⇒ BorrowRefused (Dropped L) ∷ []

  -- ---- readers, writers, and boxes that were removed

  -- Two readers at one location are two: a release removes one of them, and only once.
  abbrev leave_by_their_tickets : Name → Row T
  leave_by_their_tickets b =
      Read (box b M) L ⇒ Reads (guard (0 # 1) 0)
      ∷ Read (box b M) L ⇒ Reads (guard (0 # 1) 1)
      ∷ Write (box b M) W ⇒ BorrowRefused (BeingRead (L ∷ L ∷ []))
      ∷ ReleaseReader (guard (0 # 1) 0) ⇒ Flag true
      ∷ Write (box b M) W ⇒ BorrowRefused (BeingRead (L ∷ []))
      ∷ ReleaseReader (guard (0 # 1) 0) ⇒ Flag false
      ∷ Write (box b M) W ⇒ BorrowRefused (BeingRead (L ∷ []))
      ∷ ReleaseReader (guard (0 # 1) 1) ⇒ Flag true
      ∷ Write (box b M) W ⇒ Writes (guard (0 # 1) 2) v ∷ []

  abbrev pub readers_of_a_value_leave_by_their_tickets : Row T
  readers_of_a_value_leave_by_their_tickets =
      Make None v M takes 0 # 1 ⇒ Made (box (0 # 1) M)
      ∷ leave_by_their_tickets (0 # 1)

  abbrev pub readers_of_a_shared_value_leave_by_their_tickets : Row T
  readers_of_a_shared_value_leave_by_their_tickets =
      MakeShared None v M takes 0 # 1 and 1 # 1 ⇒ Made (box (1 # 1) M)
      ∷ leave_by_their_tickets (1 # 1)

  -- Of readers at L, M and L the first leaves, and the others stay in their order.
  abbrev pub the_first_of_three_readers_leaves : Row T
  the_first_of_three_readers_leaves =
      Make None v R takes 0 # 1 ⇒ Made (box (0 # 1) R)
      ∷ Read (box (0 # 1) R) L ⇒ Reads (guard (0 # 1) 0)
      ∷ Read (box (0 # 1) R) M ⇒ Reads (guard (0 # 1) 1)
      ∷ Read (box (0 # 1) R) L ⇒ Reads (guard (0 # 1) 2)
      ∷ ReleaseReader (guard (0 # 1) 0) ⇒ Flag true
      ∷ Write (box (0 # 1) R) W ⇒ BorrowRefused (BeingRead (M ∷ L ∷ [])) ∷ []

  -- Of readers at L, M and L the last leaves, and the others stay in their order.
  abbrev pub the_last_of_three_readers_leaves : Row T
  the_last_of_three_readers_leaves =
      Make None v R takes 0 # 1 ⇒ Made (box (0 # 1) R)
      ∷ Read (box (0 # 1) R) L ⇒ Reads (guard (0 # 1) 0)
      ∷ Read (box (0 # 1) R) M ⇒ Reads (guard (0 # 1) 1)
      ∷ Read (box (0 # 1) R) L ⇒ Reads (guard (0 # 1) 2)
      ∷ ReleaseReader (guard (0 # 1) 2) ⇒ Flag true
      ∷ Write (box (0 # 1) R) W ⇒ BorrowRefused (BeingRead (L ∷ M ∷ [])) ∷ []

  -- Under a writer, reads and writes fail with the writer's location, and the tests return false; its
  -- release puts its value back, once.
  abbrev keep_others_out : Name → Row T
  keep_others_out b =
      CanRead (box b L) ⇒ Flag true
      ∷ CanWrite (box b L) ⇒ Flag true
      ∷ Write (box b L) W ⇒ Writes (guard (0 # 1) 0) v
      ∷ Read (box b L) R ⇒ BorrowRefused (BeingWritten W)
      ∷ Write (box b L) R ⇒ BorrowRefused (BeingWritten W)
      ∷ CanRead (box b L) ⇒ Flag false
      ∷ CanWrite (box b L) ⇒ Flag false
      ∷ ReleaseWriter (guard (0 # 1) 0) w ⇒ Done
      ∷ ReleaseWriter (guard (0 # 1) 0) v ⇒ Back v
      ∷ Read (box b L) R ⇒ Reads (guard (0 # 1) 1)
      ∷ guard (0 # 1) 1 opens Some w
      ∷ CanRead (box b L) ⇒ Flag true
      ∷ CanWrite (box b L) ⇒ Flag false ∷ []

  abbrev pub a_writer_of_a_value_keeps_others_out : Row T
  a_writer_of_a_value_keeps_others_out =
      Make None v L takes 0 # 1 ⇒ Made (box (0 # 1) L)
      ∷ keep_others_out (0 # 1)

  abbrev pub a_writer_of_a_shared_value_keeps_others_out : Row T
  a_writer_of_a_shared_value_keeps_others_out =
      MakeShared None v L takes 0 # 1 and 1 # 1 ⇒ Made (box (1 # 1) L)
      ∷ keep_others_out (1 # 1)

  -- A value that is set is what a writer then owns, and what the writer puts back is read.
  abbrev pub what_is_set_and_what_is_written_is_read : Row T
  what_is_set_and_what_is_written_is_read =
      Make None u L takes 0 # 1 ⇒ Made (box (0 # 1) L)
      ∷ SetValue (box (0 # 1) L) v ⇒ Old u
      ∷ Write (box (0 # 1) L) W ⇒ Writes (guard (0 # 1) 0) v
      ∷ ReleaseWriter (guard (0 # 1) 0) w ⇒ Done
      ∷ Read (box (0 # 1) L) R ⇒ Reads (guard (0 # 1) 1)
      ∷ guard (0 # 1) 1 opens Some w ∷ []

  -- A value is set only if nothing borrows it: it comes back under a reader and under a writer, who keep
  -- what they have, and for a removed box the error has its own location.
  abbrev pub what_is_borrowed_or_gone_is_not_set : Row T
  what_is_borrowed_or_gone_is_not_set =
      Make None u L takes 0 # 1 ⇒ Made (box (0 # 1) L)
      ∷ Read (box (0 # 1) L) R ⇒ Reads (guard (0 # 1) 0)
      ∷ SetValue (box (0 # 1) L) v ⇒ Back v
      ∷ guard (0 # 1) 0 opens Some u
      ∷ ReleaseReader (guard (0 # 1) 0) ⇒ Flag true
      ∷ Write (box (0 # 1) L) W ⇒ Writes (guard (0 # 1) 1) u
      ∷ SetValue (box (0 # 1) L) v ⇒ Back v
      ∷ ReleaseWriter (guard (0 # 1) 1) u ⇒ Done
      ∷ SetValue (box (0 # 1) L) v ⇒ Old u
      ∷ SetValue (box (0 # 1) L) w ⇒ Old v
      ∷ End (box (0 # 1) L) ⇒ Done
      ∷ SetValue (box (0 # 1) L) u ⇒ BorrowRefused (Dropped L) ∷ []

  -- A call on a box whose slot has a new cell fails with the box's own location, and its removal leaves
  -- the new cell's writer alone.
  abbrev pub an_ended_box_tells_of_no_other : Row T
  an_ended_box_tells_of_no_other =
      Make None v L takes 0 # 1 ⇒ Made (box (0 # 1) L)
      ∷ End (box (0 # 1) L) ⇒ Done
      ∷ Make None w M takes 0 # 2 ⇒ Made (box (0 # 2) M)
      ∷ Write (box (0 # 2) M) W ⇒ Writes (guard (0 # 2) 0) w
      ∷ Read (box (0 # 1) L) R ⇒ BorrowRefused (Dropped L)
      ∷ End (box (0 # 1) L) ⇒ Done
      ∷ End (box (0 # 2) M) ⇒ BorrowRefused (BeingWritten W)
      ∷ Read (box (0 # 2) M) R ⇒ BorrowRefused (BeingWritten W)
      ∷ ReleaseWriter (guard (0 # 2) 0) w ⇒ Done
      ∷ End (box (0 # 2) M) ⇒ Done ∷ []

  -- Allocations may fail for a slot if too few are free, for an owner's record and list, for a reader
  -- next to another, and for an error's list of readers; there are no others.
  abbrev pub memory_may_lack_where_room_is_needed : Row T
  memory_may_lack_where_room_is_needed =
      Make None v L lacks true
      ∷ NewOwner lacks true
      ∷ Make None v L takes 0 # 1 ⇒ Made (box (0 # 1) L)
      ∷ Read (box (0 # 1) L) R lacks false
      ∷ Write (box (0 # 1) L) W lacks false
      ∷ End (box (0 # 1) L) lacks false
      ∷ Read (box (0 # 1) L) R ⇒ Reads (guard (0 # 1) 0)
      ∷ Read (box (0 # 1) L) R lacks true
      ∷ Write (box (0 # 1) L) W lacks true
      ∷ End (box (0 # 1) L) lacks true
      ∷ ReleaseReader (guard (0 # 1) 0) lacks false
      ∷ ReleaseReader (guard (0 # 1) 0) ⇒ Flag true
      ∷ End (box (0 # 1) L) ⇒ Done
      ∷ Make None v L lacks false
      ∷ MakeShared None v L lacks true
      ∷ Read (box (0 # 1) L) R lacks false
      ∷ NewOwner ⇒ Owned (owner 1)
      ∷ Make (Some (owner 1)) v L lacks true
      ∷ CloneOwner (owner 1) lacks false
      ∷ ReleaseOwner (owner 1) lacks false ∷ []

  -- ---- references, what they point to, and what `point_to` and a release check first

  -- A removed box points to itself, whatever its location; to another removed one, `point_to` fails with
  -- the other's location.
  abbrev pub an_ended_box_points_to_itself_alone : Row T
  an_ended_box_points_to_itself_alone =
      Make None v L takes 0 # 1 ⇒ Made (box (0 # 1) L)
      ∷ Make None w M takes 1 # 1 ⇒ Made (box (1 # 1) M)
      ∷ End (box (0 # 1) L) ⇒ Done
      ∷ End (box (1 # 1) M) ⇒ Done
      ∷ Point (box (0 # 1) L) (box (0 # 1) L) ⇒ Done
      ∷ Point (box (0 # 1) L) (box (0 # 1) R) ⇒ Done
      ∷ Point (box (0 # 1) L) (box (1 # 1) M) ⇒ BorrowRefused (Dropped M)
      ∷ Point (box (1 # 1) M) (box (0 # 1) L) ⇒ BorrowRefused (Dropped L)
      ∷ count_is 2 2 0 0 2 ∷ []

  -- Between a plain box and a shared one the error has the location of the one that is pointed to.
  abbrev pub a_plain_box_neither_points_nor_is_pointed_to : Row T
  a_plain_box_neither_points_nor_is_pointed_to =
      Make None v L takes 0 # 1 ⇒ Made (box (0 # 1) L)
      ∷ MakeShared None w M takes 1 # 1 and 2 # 1 ⇒ Made (box (2 # 1) M)
      ∷ Point (box (0 # 1) L) (box (2 # 1) M) ⇒ BorrowRefused (Dropped M)
      ∷ Point (box (2 # 1) M) (box (0 # 1) L) ⇒ BorrowRefused (Dropped L)
      ∷ count_is 3 0 0 3 3 ∷ []

  -- The last reference to a value can't be pointed elsewhere while the value is read; afterwards it can,
  -- and the old value is removed.
  abbrev pub a_turn_from_a_borrowed_last_value_is_refused : Row T
  a_turn_from_a_borrowed_last_value_is_refused =
      MakeShared None v L takes 0 # 1 and 1 # 1 ⇒ Made (box (1 # 1) L)
      ∷ MakeShared None w M takes 2 # 1 and 3 # 1 ⇒ Made (box (3 # 1) M)
      ∷ Read (box (1 # 1) L) R ⇒ Reads (guard (0 # 1) 0)
      ∷ Point (box (1 # 1) L) (box (3 # 1) M) ⇒ BorrowRefused (BeingRead (R ∷ []))
      ∷ guard (0 # 1) 0 opens Some v
      ∷ ReleaseReader (guard (0 # 1) 0) ⇒ Flag true
      ∷ Point (box (1 # 1) L) (box (3 # 1) M) ⇒ Done
      ∷ Read (box (1 # 1) L) R ⇒ Reads (guard (2 # 1) 1)
      ∷ guard (2 # 1) 1 opens Some w
      ∷ count_is 4 1 0 3 4 ∷ []

  -- The turned reference reads the other value, and the box that it was turned from reads the old one.
  -- Both values are removed with their last boxes.
  abbrev pub a_reference_turns_to_another_value : Row T
  a_reference_turns_to_another_value =
      NewOwner ⇒ Owned (owner 0)
      ∷ MakeShared (Some (owner 0)) v L takes 0 # 1 and 1 # 1 ⇒ Made (box (1 # 1) L)
      ∷ Refer (Some (owner 0)) (box (1 # 1) L) takes 2 # 1 ⇒ Made (box (2 # 1) L)
      ∷ NewOwner ⇒ Owned (owner 1)
      ∷ MakeShared (Some (owner 1)) w M takes 3 # 1 and 4 # 1 ⇒ Made (box (4 # 1) M)
      ∷ Point (box (2 # 1) L) (box (4 # 1) M) ⇒ Done
      ∷ Read (box (2 # 1) L) R ⇒ Reads (guard (3 # 1) 2)
      ∷ guard (3 # 1) 2 opens Some w
      ∷ ReleaseReader (guard (3 # 1) 2) ⇒ Flag true
      ∷ Read (box (1 # 1) L) R ⇒ Reads (guard (0 # 1) 3)
      ∷ guard (0 # 1) 3 opens Some v
      ∷ ReleaseReader (guard (0 # 1) 3) ⇒ Flag true
      ∷ ReleaseOwner (owner 0) ⇒ Done
      ∷ ReleaseOwner (owner 1) ⇒ Done
      ∷ Read (box (1 # 1) L) R ⇒ BorrowRefused (Dropped L)
      ∷ Read (box (4 # 1) M) R ⇒ BorrowRefused (Dropped M)
      ∷ Read (box (2 # 1) L) R ⇒ BorrowRefused (Dropped L)
      ∷ count_is 5 5 0 0 5 ∷ []

  -- A reference to a plain box fails with its location, also under a reader; under a writer it fails with
  -- the writer's.
  abbrev pub a_plain_box_has_no_reference : Row T
  a_plain_box_has_no_reference =
      Make None v L takes 0 # 1 ⇒ Made (box (0 # 1) L)
      ∷ Refer None (box (0 # 1) L) ⇒ BorrowRefused (Dropped L)
      ∷ Read (box (0 # 1) L) R ⇒ Reads (guard (0 # 1) 0)
      ∷ Refer None (box (0 # 1) L) ⇒ BorrowRefused (Dropped L)
      ∷ ReleaseReader (guard (0 # 1) 0) ⇒ Flag true
      ∷ Write (box (0 # 1) L) W ⇒ Writes (guard (0 # 1) 1) v
      ∷ Refer None (box (0 # 1) L) ⇒ BorrowRefused (BeingWritten W)
      ∷ count_is 1 0 0 1 1 ∷ []

  -- After a box was turned to a value made at M, pointing a plain box to it fails with M, and a reference
  -- to it has M. A removed box fails with its own location.
  abbrev pub a_turned_box_leads_to_the_location_of_its_new_value : Row T
  a_turned_box_leads_to_the_location_of_its_new_value =
      MakeShared None v L takes 0 # 1 and 1 # 1 ⇒ Made (box (1 # 1) L)
      ∷ MakeShared None w M takes 2 # 1 and 3 # 1 ⇒ Made (box (3 # 1) M)
      ∷ Point (box (1 # 1) L) (box (3 # 1) M) ⇒ Done
      ∷ Make None v R takes 0 # 2 ⇒ Made (box (0 # 2) R)
      ∷ Point (box (0 # 2) R) (box (1 # 1) L) ⇒ BorrowRefused (Dropped M)
      ∷ Refer None (box (1 # 1) L) takes 4 # 1 ⇒ Made (box (4 # 1) M)
      ∷ End (box (0 # 2) R) ⇒ Done
      ∷ Point (box (0 # 2) R) (box (1 # 1) L) ⇒ BorrowRefused (Dropped R)
      ∷ End (box (1 # 1) L) ⇒ Done
      ∷ CanRead (box (1 # 1) L) ⇒ Flag false ∷ []

  -- `point_to` to the same value, and from a value that another box refers to, succeeds under a reader;
  -- to a value that is being written it fails with the writer's location.
  abbrev pub a_turn_is_hindered_by_no_borrow_of_what_lives_on : Row T
  a_turn_is_hindered_by_no_borrow_of_what_lives_on =
      MakeShared None v L takes 0 # 1 and 1 # 1 ⇒ Made (box (1 # 1) L)
      ∷ Refer None (box (1 # 1) L) takes 2 # 1 ⇒ Made (box (2 # 1) L)
      ∷ MakeShared None w M takes 3 # 1 and 4 # 1 ⇒ Made (box (4 # 1) M)
      ∷ Read (box (1 # 1) L) R ⇒ Reads (guard (0 # 1) 0)
      ∷ Point (box (2 # 1) L) (box (1 # 1) L) ⇒ Done
      ∷ Write (box (4 # 1) M) W ⇒ Writes (guard (3 # 1) 1) w
      ∷ Point (box (2 # 1) L) (box (4 # 1) M) ⇒ BorrowRefused (BeingWritten W)
      ∷ ReleaseWriter (guard (3 # 1) 1) w ⇒ Done
      ∷ Point (box (2 # 1) L) (box (4 # 1) M) ⇒ Done
      ∷ Point (box (1 # 1) L) (box (4 # 1) M) ⇒ BorrowRefused (BeingRead (R ∷ []))
      ∷ guard (0 # 1) 0 opens Some v ∷ []

  -- If two of an owner's boxes are read, the error is that of the one that was inserted first, whatever
  -- its slot.
  abbrev pub a_release_is_refused_at_the_first_box_listed : Row T
  a_release_is_refused_at_the_first_box_listed =
      NewOwner ⇒ Owned (owner 0)
      ∷ Make None v L takes 0 # 1 ⇒ Made (box (0 # 1) L)
      ∷ Make (Some (owner 0)) v L takes 1 # 1 ⇒ Made (box (1 # 1) L)
      ∷ End (box (0 # 1) L) ⇒ Done
      ∷ Make (Some (owner 0)) w M takes 0 # 2 ⇒ Made (box (0 # 2) M)
      ∷ Read (box (0 # 2) M) W ⇒ Reads (guard (0 # 2) 1)
      ∷ Read (box (1 # 1) L) R ⇒ Reads (guard (1 # 1) 2)
      ∷ ReleaseOwner (owner 0) ⇒ BorrowRefused (BeingRead (R ∷ []))
      ∷ ReleaseReader (guard (1 # 1) 2) ⇒ Flag true
      ∷ ReleaseOwner (owner 0) ⇒ BorrowRefused (BeingRead (W ∷ [])) ∷ []

  -- ---- sessions

  -- An owner's value is read, written and removed by places. A release that a reader hinders leaves the
  -- owner at its place. A guard that was consumed, and an owner, are `NoSuch` then.
  abbrev pub places_keep_what_calls_gave : SessionRow T
  places_keep_what_calls_gave =
      call.Owner answers AnOwner
      ∷ call.Insert 0 v L gives 0 # 1 answers ABox (box (0 # 1) L)
      ∷ call.TryRead (Place 1) R answers AReader
      ∷ call.ReleaseOwner 0 answers Error (BeingRead (R ∷ []))
      ∷ call.Release 2 answers IsDone
      ∷ call.Release 2 answers NoSuch None
      ∷ call.TryWrite (Place 1) W answers AWriter
      ∷ call.Replace 6 w answers TheOld v
      ∷ call.Release 6 answers IsDone
      ∷ call.ReleaseOwner 0 answers IsDone
      ∷ call.TryRead (Place 1) R answers Error (Dropped L)
      ∷ call.Insert 0 u M answers NoSuch (Some u) ∷ []

  -- Two values are made and removed, and a third is made: in the slot that was freed last, or first.
  abbrev taken_again : Name → SessionRow T
  taken_again n =
      call.Leak u L gives 0 # 1 answers ABox (box (0 # 1) L)
      ∷ call.Leak v M gives 1 # 1 answers ABox (box (1 # 1) M)
      ∷ call.ManuallyDrop (Place 0) answers IsDone
      ∷ call.ManuallyDrop (Place 1) answers IsDone
      ∷ call.Leak w R gives n answers ABox (box n R) ∷ []

  abbrev pub the_slot_freed_last_is_taken_again : SessionRow T
  the_slot_freed_last_is_taken_again = taken_again (1 # 2)

  abbrev pub the_slot_freed_first_is_taken_again : SessionRow T
  the_slot_freed_first_is_taken_again = taken_again (0 # 2)

  -- one name is issued twice, which no store does
  abbrev pub one_name_twice : Row T
  one_name_twice =
      Make None v L takes 0 # 1 ⇒ Made (box (0 # 1) L)
      ∷ Make None w M takes 0 # 1 ⇒ Made (box (0 # 1) M) ∷ []

  -- one slot was made, and its cell was removed, or is live
  abbrev pub one_ended : State T
  one_ended = record (fresh 7 1 0) { given = set.from_list (0 # 1 ∷ []); peak = 1 }

  abbrev pub one_live : State T
  one_live = record one_ended { cells = map.insert map.empty (0 # 1) (Value (Here v []) L) }
