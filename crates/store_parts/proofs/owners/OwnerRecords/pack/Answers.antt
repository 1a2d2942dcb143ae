-- The packed positions have the records of the others, with keys apart.
use Rattle.store_parts.proofs.{apart_bare, arith, length, owners_bare, owners_of, subst, sym, ◌∙◌, ◌≤◌}
use Rattle.std.proofs.Common.{ap, rules, take_all, vec_len, ◌≡◌}
use Rattle.store_parts.specs.KeptRecords.{HasDistinctKeys, KeptOwners}
use Rattle.store_parts.specs.PackedOwners.{bare_records, unpack_records}
use Rattle.store_parts.proofs.owners.OwnerRecords.pack.Goals as goal

module _ (c : goal.After-loop-position) where
  packed : unpack_records c.loop-position.names.items c.loop-position.records.items
      ≡ bare_records c.self.inside.records.items
  packed =
      let own = ap (λ (r : KeptOwners). r.records) c.self.view_is in
      let many : vec_len c.self.inside.records ≡ length c.self.inside.records.items = search rules in
      let past : length c.args.self.now.records ≤ c.loop-position.position =
      omega (arith, c.loop-position-test.false, c.len-position-end.ensures, ap length own, many) in
      c.loop-position.invariant.packed
      ∙ ap bare_records (take_all c.loop-position.position c.args.self.now.records past ∙ sym own)

pub invariant_of-result : goal.invariant_of-result
invariant_of-result c =
    subst HasDistinctKeys (sym (packed c)) (apart_bare c.self.inside.records.items c.self.invariant.apart)

pub returns : goal.returns
returns c = ap owners_of (packed c) ∙ owners_bare c.self.inside.records.items
    ∙ ap (λ (r : KeptOwners). r.owners) c.self.view_is
