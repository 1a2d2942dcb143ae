-- The keys of the unpacked positions are apart, as those of the packed ones are.
use Rattle.store_parts.proofs.{apart_full, append-nil, arith, length, subst, sym, ◌++◌, ◌∙◌, ◌≡◌, ◌≤◌}
use Rattle.std.proofs.Common.{ap, rules, vec_len}
use Rattle.std.proofs.lemmas.List.{drop_all}
use Rattle.store_parts.specs.KeptRecords.{HasDistinctKeys}
use Rattle.store_parts.specs.PackedOwners.{bare_records, unpack_records}
use Rattle.store_parts.proofs.owners.packed.PackedOwners.unpack.Goals as goal

pub returns-clause-apart : goal.returns-clause-apart
returns-clause-apart c =
    let packed = c.self.inside.records in
    let done = bare_records c.loop-position.records.items in
    let many : vec_len packed ≡ length packed.items = search rules in
    let past : length packed.items ≤ c.loop-position.position =
    omega (arith, c.loop-position-test.false, c.len-position-end.ensures, many) in
    let all : done ≡ c.args.self.now =
    sym (append-nil done) ∙ ap (λ left. done ++ unpack_records c.loop-position.rest.now left)
    (sym (drop_all c.loop-position.position packed.items past)) ∙ c.loop-position.invariant in
    apart_full c.loop-position.records.items
    (subst HasDistinctKeys (c.self.view_is ∙ sym all) c.self.invariant)
