-- The names of std, of the machine and of the specs that the proofs here cite, passed on from one place.
pub use Rattle.document_tree.specs.Documents.{added_in, ChangesPart, ChangesContent, children_shown, content_shown, created_at}
pub use Rattle.document_tree.specs.Documents.{DocumentState, EndsPart, IsOnlyPlace, KeepsPartLocations, Leaves, live_among}
pub use Rattle.document_tree.specs.Documents.{part_at, part_in, Place, Shown, shown_by, shown_in, shown_of, site_told}
pub use Rattle.document_tree.specs.Documents.{WasPlaced, with_children, with_new_content}
pub use Rattle.document_tree.specs.Keeping.{AreExactly, IsDocumentKept, IsTold, key_in, Leads, places_of, without_one}
pub use Rattle.document_tree.specs.Outlines.{children_in, IsBelowPlace, IsBelowBy}
pub use Rattle.document_tree.specs.Parts.{is_full, left, met}
pub use Rattle.document_tree.specs.declared.part.Part.{Part}
unfoldable pub use Rattle.document_tree.specs.Outlines.{deep_outline_of, outline_places}
pub use Rattle.generational_core.proofs.machine.{given_other, quiet_ends, quiet_sees, same_value, slot_within}
pub use Rattle.generational_core.proofs.machine.Calls.{ends, meets_tells, refused_make, seen_reached, sets, unseen}
pub use Rattle.generational_core.proofs.machine.Calls.Steps.{made_new, meets_given, meets_number}
pub use Rattle.generational_core.proofs.maps.Maps.{by_number, by_option, key_cases}
pub use Rattle.generational_core.specs.Boxes.{name_in, name_of}
pub use Rattle.generational_core.specs.Machine.Action.{End, Make, SetValue}
pub use Rattle.generational_core.specs.Machine.Answer.{Done, Made, Old}
pub use Rattle.generational_core.specs.declared.boxes.GenerationalBoxId.{GenerationalBoxId}
pub use Rattle.generational_core.specs.declared.boxes.GenerationalPointer.{GenerationalPointer}
pub use Rattle.generational_core.specs.{Conditions.fresh, Seeing.value_in, Slots.free, Slots.last_name, Slots.slots}
pub use Rattle.generational_core.specs.{State.IsGiven, State.IsSound, State.State, Steps.Meets}
pub use Rattle.generational_errors.specs.declared.error.Location.{Location}
use Rattle.generational_laws.proofs.callers as laws
pub use laws.{fresh_sees, fresh_simple, IsSeen, made_simple, make_short, making, one_id, others_left, reach_apart}
pub use laws.{same_id_sees, seen_cell, seen_store, set_seen, simple_still}
pub use Rattle.generational_laws.specs.PlainStores.{HasNoReferences, IsSimple}
pub use Rattle.handles.proofs.Told.{told_here, told_more, untold}
pub use Rattle.handles.specs.Handles.{at_slot, id_in, IsOther, IsSame, nowhere, pointer_in, slot_in}
pub use Rattle.handles.specs.Sites.{SiteState, TellsLocation, told_at, told_in}
pub use Rattle.location_list.specs.Locations.{IsAt}
pub use Rattle.slab.specs.Slab.{Slab, Updates}
pub use Rattle.std.proofs.Common.{add-one, ap, append_assoc, arith, Bool, cond, count_by, Err, false, inl, inr, length}
pub use Rattle.std.proofs.Common.{List, map, None, Ok, Option, refl, reverse, rules, Some, subst, suc, sym, zero}
pub use Rattle.std.proofs.Common.{true, ℕ, [], ⊎_elim, ◌++◌, ◌&&◌, ◌+◌, ◌-◌, ◌<◌, ◌∙◌, ◌∷◌, ◌≡◌, ◌≢◌, ◌≤◌}
pub use Rattle.std.proofs.lemmas.Bool.{cases_lt, true≢false}
pub use Rattle.std.proofs.lemmas.Option.{same_Some, slice_get_within}
pub use Rattle.std.specs.Cmp.{nat_eq_equiv}
pub use Rattle.std.specs.Prelude.{min}
pub use Rattle.std.proofs.lemmas.Iterator.Adapters.{items_from_extend, YieldsList-from_rev_slice}
pub use Rattle.std.proofs.lemmas.Iterator.Consumers.{YieldsList-at, YieldsList-from_copied}
pub use Rattle.std.proofs.lemmas.List.{append-nil, get_or-set_other, get_or-set_same, length-take, length_push, map-append, map-id, nil_from_length}
pub use Rattle.std.proofs.lemmas.List.{reverse-append, reverse-reverse}
pub use Rattle.std.proofs.lemmas.List.Sums.{count_by-le-length, sum_by-cons}
pub use Rattle.std.proofs.lemmas.List.Elements.{All-append, All-cons, All-contains_itself, All-head}
pub use Rattle.std.proofs.lemmas.List.Elements.{All-map, All-nil, All-pop, All-tail, All-weaker}
pub use Rattle.std.proofs.{lemmas.Fn.filter_same, lemmas.Simd.map-map, lemmas.Option.none-some}
pub use Rattle.std.proofs.{lemmas.Result.on_ok_weaker, lemmas.Iterator.YieldsList-from_map}
pub use Rattle.std.specs.Prelude.{filter, if◌then◌else◌, is_some, nat_eq, option_copied, slice_get, slice_index_or}
pub use Rattle.std.specs.Prelude.{unwrap_or, ◌⊎◌}
pub use Rattle.std.specs.{Borrow.MutBor, Fn.FnOnceReturnsAtMut, Fn.Once, List.All, List.list_all, List.remove}
