-- Another position represents what was packed, with its own names after the others'.
use Rattle.store_parts.proofs.{append-nil, length, None, on_ok_if, packed_more, packed_record, refl}
use Rattle.store_parts.proofs.{Some, [], ◌++◌, ◌∙◌, ◌∷◌, ◌≡◌}
use Rattle.std.proofs.Common.{ap, sym, OnOk}
use Rattle.std.proofs.lemmas.Result.{on_ok_weaker}
use Rattle.store_parts.specs.PackedOwners.{bare_record, packed_names_of, unpack_records}
use Rattle.store_parts.proofs.owners.packed.push_packed.Goals as goal

module _ (c : goal.After-push_more) where
  vacant : OnOk c.push_more.result ((unpack_records c.args.names.now.items c.push_more.new.items.items
      ≡ unpack_records c.args.names.now.items c.args.records.now.items ++ bare_record c.args.position.now ∷ [])
      × (packed_names_of c.push_more.new.items.items ≡ length c.args.names.now.items))
  vacant =
      on_ok_weaker c.push_more.result (λ pushed.
      packed_more c.args.names.now.items [] c.args.names.now.items c.args.records.now.items
      c.push_more.new.items.items None (bare_record c.args.position.now) c.requires pushed
      (sym (append-nil c.args.names.now.items)) refl (sym (ap bare_record c.in_default.is)))
      c.push_more.ensures.ok

pub returns-in_default-clause-more : goal.returns-in_default-clause-more
returns-in_default-clause-more c = on_ok_weaker c.push_more.result (λ both. both.0) (vacant c)

pub returns-in_default-clause-all : goal.returns-in_default-clause-all
returns-in_default-clause-all c = on_ok_weaker c.push_more.result (λ both. both.1) (vacant c)

module _ (c : goal.After-extend_from_slice) where
  packed : OnOk c.extend_from_slice.result
      ((unpack_records c.extend_from_slice.new.self.items c.push_more-2.new.items.items
      ≡ unpack_records c.args.names.now.items c.args.records.now.items ++ bare_record c.args.position.now ∷ [])
      × (packed_names_of c.push_more-2.new.items.items ≡ length c.extend_from_slice.new.self.items))
  packed =
      let own = c.record.inside in
      let names = c.args.names.now.items in
      let many = c.len.ensures ∙ sym c.as_slice.ensures.len ∙ ap length c.as_slice.ensures.value in
      on_ok_weaker c.extend_from_slice.result (λ grown.
      packed_more names own.boxes.items c.extend_from_slice.new.self.items
      c.args.records.now.items c.push_more-2.new.items.items
      (Some (record { key = own.key; count = own.count; names = c.len.result }))
      (bare_record c.args.position.now) c.requires c.in_ok-push_more.ensures.ok
      (grown ∙ ap (λ xs. names ++ xs) c.as_slice.ensures.value) many
      (packed_record own.key own.count _ own.boxes.items c.len.result c.in-Some.record
      many c.record.view_is ∙ sym (ap bare_record c.in-Some.is)))
      (on_ok_if c.extend_from_slice.result _ _ _ c.extend_from_slice.ensures.items)

pub returns-clause-more : goal.returns-clause-more
returns-clause-more c = on_ok_weaker c.extend_from_slice.result (λ both. both.0) (packed c)

pub returns-clause-all : goal.returns-clause-all
returns-clause-all c = on_ok_weaker c.extend_from_slice.result (λ both. both.1) (packed c)
