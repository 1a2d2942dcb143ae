-- The names of machine and store that most proofs here cite, passed on from one file.
use Rattle.store_parts.specs
use Rattle.std.proofs
pub use proofs.Common.{OnErr, option_to_list, Result, All, ap, append-nil, arith, Bool, Bor, cond}
pub use proofs.Common.{drop, Err, false, get_or, IfSome, if◌then◌else◌, inl, inr, is_some, length}
pub use proofs.Common.{length-append, Less, List, map, nat_cmp, nat_eq, None, not, Ok, Option}
pub use proofs.Common.{option_map, refl, reverse, rules, slice_get, slice_set, Some, subst, suc}
pub use proofs.Common.{sym, T, take, true, zero, ℕ, [], ⊎_elim, ◌++◌, ◌+◌, ◌-◌, ◌<◌, ◌||◌, ◌∙◌, ◌∷◌}
pub use proofs.Common.{◌≡◌, ◌≢◌, ◌≤◌}
pub use proofs.Math.{Seq.get_or-append_seam, Seq.take-nil}
pub use proofs.lemmas.{Bool.or_parts, Bool.Decides.nat_tests, List.Sorted.answers_always}
pub use proofs.lemmas.Bool.{cases_Bool, cases_lt, eq-eqb, false≢true}
pub use proofs.lemmas.Cmp.{ranked}
pub use proofs.lemmas.List.{length-map, Elements.filter_from_retain, Elements.filter_passes}
pub use proofs.lemmas.List.{Kept.AllPairs-filter, get_or-set_other, get_or-set_same}
pub use proofs.lemmas.List.{get_or_append_left, get_or_read, get_or_read_under, length-reverse}
pub use proofs.lemmas.List.{length-set, reverse-append, take_all, Elements.All-from_recursion}
pub use proofs.lemmas.List.{Elements.All-get_or, Elements.All-weaker, Elements.recursion_from_All}
pub use proofs.lemmas.List.{get_or_default, Quantifiers.all_pairs_push}
pub use proofs.lemmas.List.Folds.{list_any-append, list_any_none}
pub use proofs.lemmas.Map.Keys.{IsDistinct-cons, IsDistinct-head, IsDistinct-push, IsDistinct-tail}
pub use proofs.lemmas.Map.{Steps.length-le_from_distinct_below}
pub use proofs.lemmas.Option.{slice_get_past, slice_get_read, slice_get_within}
pub use Rattle.std.specs.{BTreeMap.get, BTreeMap.is_at, Ordering.eq_by_cmp, Ordering.ordering_index}
pub use Rattle.std.specs.{Cmp.nat_cmp_total, Cmp.nat_eq_equiv, FinMap.nat_cmp-IsAntisymmetric}
pub use Rattle.std.specs.{Fn.Called, Fn.ComputesKey, Vec.vec_len, VecDeque.Iter.deque_iter_rest}
pub use Rattle.std.specs.{Map.keys_of, Map.lookup, Option.option_or}
pub use Rattle.std.specs.List.{AllByRecursion, filter, list_any, remove}
pub use Rattle.std.specs.List.Sorted.{IsBinarySearchResult, IsNonDecreasingBy}
pub use specs.{Borrows.AreTicketsBelow, declared.names.CellName.CellName, CellNames.name_of_cell}
pub use specs.{Lists.how_many, Pools.slot_chain, Pools.IsPool, Pools.last_slot_of}
pub use specs.KeptRecords.{AreSoundRecords, change_ownership, change_record, change_record_if}
pub use specs.KeptRecords.{HasDistinctKeys, HasRecord, HasNameRoom, is_vacant, owner_key_in, IsPositionOf, IsReserved}
pub use specs.KeptRecords.{IsFilledWith, keyed_ownerships, KeyedOwnership, MaybeRecord, rows_of_record, record_at}
pub use specs.KeptRecords.{record_in, KeptOwners, with_ownership, with_rooms}
pub use specs.OwnerRecords.{add_to_list_in, record_of}
pub use specs.Queues.{HasTicketAt, AreSeatsKept, IsOwnSeat, IsQueue, standing_in, StandsAt}
pub use specs.Queues.{TicketsAscend}
pub use specs.Table.{IsTable}
pub use Rattle.generational_core.proofs.maps.Maps.{by_number, changed_there, insert_there}
pub use Rattle.generational_core.specs.{Boxes.id_of}
pub use Rattle.generational_core.specs.{Machine.OwnerName, Names.Name, StepCalls.owner_of}
pub use Rattle.generational_core.specs.Rows.{owner_rows, reader_row, record_rows}
pub use Rattle.generational_core.specs.State.{one_less, one_listed, one_more, Owners, Ownership}
pub use Rattle.generational_core.specs.declared.{borrow.Borrow.Borrow, rows.BaseRow.BaseRow}
pub use denote.Param.Members.{Mut}
unfoldable pub use Rattle.std.specs.{List.IsDistinct, List.Sorted.IsStrictlySortedBy}
unfoldable pub use Rattle.store_parts.specs.KeptRecords.{owners_of}
unfoldable pub use Rattle.generational_core.specs.Names.{change}
