use Rattle.document_tree.proofs.Flagging.{all_of, first_before, first_cases, first_here, first_of, flags_alike, flags_none, flags_then, IsAmongFirst}
use Rattle.document_tree.proofs.{ap, arith, children_in, subst, sym, unwrap_or, [], ◌∙◌, ◌≡◌}
use Rattle.std.proofs.lemmas.Option.{slice_get-get_or}
use Rattle.std.specs.List.{Contains}
use Rattle.document_tree.proofs.document.Document.flag_children.Goals as goal

pub loop-at-init : goal.loop-at-init
loop-at-init g c = record {
  flags = flags_none c.args.self.now (IsAmongFirst c.in-Ok.children.now 0) c.args.flags.now.items (λ p is. absurd (omega (arith, is.1)));
}

pub flag-requires : goal.flag-requires
flag-requires g c = c.loop-at.invariant.flags.length ∙ c.requires

pub loop-at-preserved : goal.loop-at-preserved
loop-at-preserved g c =
    let children = c.in-Ok.children.now in
    let here = slice_get-get_or children c.loop-at.at _ c.loop-at-test.true in
    record {
      flags = flags_then c.args.self.now c.loop-at.invariant.flags c.flag.ensures
          (first_cases children c.loop-at.at _ here) (first_before children c.loop-at.at _ here)
          (first_here children c.loop-at.at _ here);
    }

pub returns : goal.returns
returns g c =
    let children = c.in-Ok.children.now in
    let is : children ≡ children_in c.args.self.now c.args.place = sym (ap (λ o. unwrap_or o []) c.in-Ok.ensures.seen) in
    flags_alike c.args.self.now c.loop-at.invariant.flags
    (λ p among. subst (λ l. Contains l p) is (all_of children c.loop-at.at p among))
    (λ p has. first_of children c.loop-at.at p c.loop-at-test.false (subst (λ l. Contains l p) (sym is) has))
