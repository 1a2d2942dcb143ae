use Rattle.document_tree.proofs.Gathering.{none_in, passed_marked, passed_still, still_waits}
use Rattle.document_tree.proofs.{arith, inr, length, refl, subst, sym, ⊎_elim, ◌∙◌, ◌≡◌}
use Rattle.document_tree.specs.Marks.{IsPassed}
use Rattle.document_tree.proofs.document.Document.next_unmarked.Goals as goal

pub returns-then-mark-clause-passed : goal.returns-then-mark-clause-passed
returns-then-mark-clause-passed g c = passed_marked c.args.self.now c.args.waiting.now.items c.loop-next.waiting.items
    c.pop.new.self.items c.in-Some.next c.args.marks.now.items c.loop-next.marks.items c.loop-next.invariant.passed
    c.loop-next.invariant.same c.in-Some.ensures.items c.mark.new.marks.items (c.if-mark.ensures.first refl)

pub loop-next-preserved : goal.loop-next-preserved
loop-next-preserved g c = record {
  left = λ q has. c.loop-next.invariant.left q
      (still_waits c.loop-next.waiting.items c.pop.new.self.items c.in-Some.next q c.in-Some.ensures.items has);
  passed = passed_still c.args.self.now c.args.waiting.now.items c.loop-next.waiting.items c.pop.new.self.items
      c.in-Some.next c.args.marks.now.items c.loop-next.marks.items c.loop-next.invariant.passed
      c.loop-next.invariant.same c.in-Some.ensures.items (c.if-mark.ensures.passed refl);
  same = c.if-mark.ensures.same refl ∙ c.loop-next.invariant.same;
}

pub returns-clause-passed : goal.returns-clause-passed
returns-clause-passed g c q has =
    let none : length c.loop-next.waiting.items ≡ 0 = omega (arith, c.in_default.ensures.cases.0) in
    ⊎_elim (λ waits. absurd (none_in c.loop-next.waiting.items q none waits))
    (λ is. inr (subst (λ l. IsPassed c.args.self.now l q) (sym c.loop-next.invariant.same) is))
    (c.loop-next.invariant.passed q has)
