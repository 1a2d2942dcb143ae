-- The names of machine and store that most proofs here cite, passed on from one place.
pub use Rattle.generational_core.specs.Borrowing.{leads_to, read_refusal, write_refusal}
pub use Rattle.generational_core.specs.declared.boxes.GenerationalBoxId.{GenerationalBoxId}
pub use Rattle.generational_core.specs.{declared.borrow.Borrow.Borrow, Cells.Content}
pub use Rattle.generational_core.specs.{Cells.content_of, Rows.content_rows, Machine.has_reader}
pub use Rattle.generational_core.specs.{Machine.has_writer, Cells.Content.Here, Cells.Content.Lent}
pub use Rattle.generational_core.specs.{Names.Name, Answers.value_of}
pub use Rattle.generational_errors.specs.declared.error.BorrowMutError.{BorrowMutError}
pub use Rattle.generational_errors.specs.declared.{error.Location.Location, error.Refused.Refused}
pub use Rattle.std.proofs.Common.{ap, append-nil, arith, Bool, cond, Err, false, IfSome, inl, inr}
pub use Rattle.std.proofs.Common.{is_none, is_some, length, length-append, List, nat_eq, None}
pub use Rattle.std.proofs.Common.{OnErr, OnOk, Option, refl, Result, slice_get, slice_set, Some}
pub use Rattle.std.proofs.Common.{suc, sym, true, zero, ℕ, [], ⊎_elim, ◌++◌, ◌+◌, ◌-◌, ◌<◌, ◌∙◌}
pub use Rattle.std.proofs.Math.ListN.{get_or, get_or-append, get_or-eq_default}
pub use Rattle.std.proofs.lemmas.Bool.{cases_Bool, cases_eq, eq-eqb, eqb-true, false_from_ne_true}
pub use Rattle.std.proofs.lemmas.List.{get_or-set_other, get_or-set_same, length-set}
pub use Rattle.std.proofs.lemmas.Option.{slice_get_cases, slice_get_past, slice_get_read}
pub use Rattle.std.proofs.{lemmas.Grind.common_steps, Math.Seq.get_or-append_seam}
pub use Rattle.std.proofs.{lemmas.Bool.Decides.nat_tests, lemmas.Bool.ne_eqb}
pub use Rattle.std.proofs.{lemmas.Option.slice_get_within, Common.◌∷◌, Common.◌≡◌, Common.◌≢◌}
pub use Rattle.std.proofs.{Common.◌≤◌, Common.◌⊎◌}
pub use Rattle.std.specs.{List.filter, Ordering.nat_cmp, Cmp.nat_cmp_total, Prelude.not}
pub use Rattle.std.specs.{Prelude.◌&&◌}
pub use Rattle.store_cells.specs.Entries.{AreIndexed, AreRoomy, entries_of, entry_of, entry_with}
pub use Rattle.store_cells.specs.Entries.{EntryList, full_data, has_index, HasListIndex, index_in}
pub use Rattle.store_cells.specs.Entries.{index_of, is_lent_data, is_unborrowed_data, IsListable}
pub use Rattle.store_cells.specs.Entries.{IsListed, IsUnborrowed, kept_data, kind_of, lead_of}
pub use Rattle.store_cells.specs.Entries.{lent_data, listed_beside, target_name_of, unread_data}
pub use Rattle.store_cells.specs.Entry.{cell_in, cell_of, change_entry, content_in, Entry}
pub use Rattle.store_cells.specs.Entry.{FoundBorrowed, FoundReaders, has_no_borrow}
pub use Rattle.store_cells.specs.Entry.{is_unborrowed_value, IsAlone, IsReadable, Kept, cell_kind_in}
pub use Rattle.store_cells.specs.Entry.{lend_to, readers_of, referring, target_name_in, value_for}
pub use Rattle.store_cells.specs.Entry.{with_reader, with_value, without_reader_in}
pub use Rattle.store_cells.specs.Latest.{AreBorrowsNoted, borrows_of, cleared, HasWriter, is_noted}
pub use Rattle.store_cells.specs.Latest.{is_noted_at, is_reader, is_writer, IsNoted, may_note}
pub use Rattle.store_cells.specs.declared.entry.EntryDetails.{EntryDetails}
pub use Rattle.store_cells.specs.declared.entry.StorageEntry.{StorageEntry}
pub use Rattle.store_cells.specs.declared.entry.StorageEntryData.{StorageEntryData}
pub use Rattle.store_cells.specs.declared.latest.LastBorrow.{LastBorrow}
pub use Rattle.store_cells.specs.{Data.data_in, Entry.Kept.Empty, declared.entry.CellKind.CellKind}
pub use Rattle.store_cells.specs.{Entry.Kept.Live, declared.latest.Noted.Noted, Latest.noted_at}
pub use Rattle.store_cells.specs.{Data.SlotData, Entries.unread_in}
unfoldable pub use Rattle.store_cells.specs.Entries.{entries_from}
pub use Rattle.store_parts.proofs.records.lists.{bit, contains-insert_at, contains-remove_at}
pub use Rattle.store_parts.proofs.records.lists.{fewer_within, IsWritten, passes, push_written}
pub use Rattle.store_parts.proofs.records.lists.{set-own, set_written}
pub use Rattle.store_parts.specs.Table.{IsClosed, IsUsed, IsVacant, list_at, no_index, put_list}
pub use Rattle.store_parts.specs.{Borrows.AreTicketsBelow, Lists.how_many, CellNames.name_of_cell}
pub use Rattle.store_parts.specs.{Table.Releases, Table.Table}
