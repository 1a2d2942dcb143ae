use Rattle.document_tree.proofs.{FnOnceReturnsAtMut, get_or-set_other, get_or-set_same, None, rules, sym, within_list}
use Rattle.document_tree.proofs.part.change_part.Goals as goal

pub returns : goal.returns
returns g c =
    let called : FnOnceReturnsAtMut g.F.FnOnce c.args.f c.in-Some.part.now c.f.result c.f.new.arg2 = search rules in
    let had = sym c.in-Some.ensures.value in (
      c.in-Some.part.now,
      c.f.new.arg2,
      had,
      called,
      record {
        changed = get_or-set_same c.args.parts.now.slots c.args.key _ None (within_list _ c.args.key _ had);
        others = λ other ne. get_or-set_other c.args.parts.now.slots c.args.key other _ None ne;
      },
    )
