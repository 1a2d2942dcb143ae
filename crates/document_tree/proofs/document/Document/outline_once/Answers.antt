use Rattle.document_tree.proofs.Gathering.{first_listed, first_more, gathered_below, gathered_every, gathered_live, gathering_begun, gathering_more}
use Rattle.document_tree.proofs.Gathering.{IsGathering, key_within, mark_fewer, no_marks, none_in, unmarked}
use Rattle.document_tree.proofs.{ap, DocumentState, inl, IsDocumentKept, length, None, Place, slice_index_or, subst, sym, ℕ, [], ⊎_elim, ◌<◌, ◌∙◌, ◌≡◌, ◌≤◌}
use Rattle.document_tree.specs.Marks.{IsMarked, IsPassed}
use Rattle.std.proofs.lemmas.List.{length-replicate, length-set}
use Rattle.std.specs.List.{Contains}
use Rattle.std.specs.Prelude.{false}
use Rattle.document_tree.proofs.document.Document.outline_once.Goals as goal

pub loop-next-init : goal.loop-next-init
loop-next-init g c =
    let marks = c.in_ok-marks.ensures.items_if_clones_equal (λ y is. is) in
    record {
      gathering = subst (λ l. IsGathering c.args.self.now c.args.place l c.in_ok-waiting.waiting.items c.in_ok-marks.marks.items)
          (sym c.new-places.ensures.items)
          (subst (λ l. IsGathering c.args.self.now c.args.place [] l c.in_ok-marks.marks.items) (sym c.in_ok-waiting.ensures.items)
          (gathering_begun c.args.self.now c.args.place c.in_ok-marks.marks.items
          (λ key is. no_marks c.in-Some.end key (subst (λ l. IsMarked l key) marks is))));
      first = inl (
        c.new-places.ensures.items,
        c.in_ok-waiting.ensures.items,
        λ key is. no_marks c.in-Some.end key (subst (λ l. IsMarked l key) marks is),
      );
      length = ap length marks ∙ length-replicate c.in-Some.end false;
    }

pub next_unmarked-requires : goal.next_unmarked-requires
next_unmarked-requires g c p key is = subst (λ n. key < n) (sym c.loop-next.invariant.length)
    (key_within c.args.self.now (subst (λ (D : DocumentState _). IsDocumentKept D.state D.parts D.sites) c.self.view_is c.self.invariant)
    c.in-Some.end
    (subst (λ (D : DocumentState _). (key : ℕ) → c.in-Some.end ≤ key → slice_index_or D.parts key None ≡ None) c.self.view_is
    c.in-Some.ensures) p key is)

pub loop-next-smaller : goal.loop-next-smaller
loop-next-smaller g c =
    let first = c.in-Some-next_unmarked.ensures.found.1 in
    subst (λ l. unmarked l < unmarked c.loop-next.marks.items) (sym first.3)
    (mark_fewer c.loop-next.marks.items first.0 first.2)

pub loop-next-preserved : goal.loop-next-preserved
loop-next-preserved g c =
    let found = c.in-Some-next_unmarked.ensures.found in
    record {
      gathering = gathering_more c.args.self.now c.args.place c.loop-next.places.items c.push.new.self.items
          c.loop-next.waiting.items c.next_unmarked.new.waiting.items c.put_children.new.places.items
          c.loop-next.marks.items c.next_unmarked.new.marks.items c.in-Some-next_unmarked.next
          c.loop-next.invariant.gathering found.0 found.1 c.in-Some-next_unmarked.ensures.left
          c.in-Some-next_unmarked.ensures.passed c.in_ok-push.ensures.items c.in_ok-put_children.ensures;
      first = first_more c.args.self.now c.args.place c.loop-next.places.items c.push.new.self.items
          c.loop-next.waiting.items c.put_children.new.places.items c.in-Some-next_unmarked.next
          c.loop-next.marks.items c.next_unmarked.new.marks.items
          c.loop-next.invariant.first found.0 c.in_ok-push.ensures.items;
      length = ap length found.1.3 ∙ (length-set c.loop-next.marks.items _ _ ∙ c.loop-next.invariant.length);
    }

pub returns-clause-live : goal.returns-clause-live
returns-clause-live g c =
    let none : (q : Place) → Contains c.loop-next.waiting.items q → IsPassed c.args.self.now c.loop-next.marks.items q =
    λ q waits. ⊎_elim
    (λ on. absurd (none_in c.next_unmarked.new.waiting.items q c.in_default-next_unmarked.ensures.none on))
    (λ is. subst (λ l. IsPassed c.args.self.now l q) c.in_default-next_unmarked.ensures.same is)
    (c.in_default-next_unmarked.ensures.passed q waits) in
    gathered_live c.args.self.now c.args.place c.loop-next.invariant.gathering none
    (subst (λ (D : DocumentState _). IsDocumentKept D.state D.parts D.sites) c.self.view_is c.self.invariant)

pub returns-clause-below : goal.returns-clause-below
returns-clause-below g c =
    let none : (q : Place) → Contains c.loop-next.waiting.items q → IsPassed c.args.self.now c.loop-next.marks.items q =
    λ q waits. ⊎_elim
    (λ on. absurd (none_in c.next_unmarked.new.waiting.items q c.in_default-next_unmarked.ensures.none on))
    (λ is. subst (λ l. IsPassed c.args.self.now l q) c.in_default-next_unmarked.ensures.same is)
    (c.in_default-next_unmarked.ensures.passed q waits) in
    gathered_below c.args.self.now c.args.place c.loop-next.invariant.gathering none

pub returns-clause-every : goal.returns-clause-every
returns-clause-every g c =
    let none : (q : Place) → Contains c.loop-next.waiting.items q → IsPassed c.args.self.now c.loop-next.marks.items q =
    λ q waits. ⊎_elim
    (λ on. absurd (none_in c.next_unmarked.new.waiting.items q c.in_default-next_unmarked.ensures.none on))
    (λ is. subst (λ l. IsPassed c.args.self.now l q) c.in_default-next_unmarked.ensures.same is)
    (c.in_default-next_unmarked.ensures.passed q waits) in
    gathered_every c.args.self.now c.args.place c.loop-next.invariant.gathering none

pub returns-clause-first : goal.returns-clause-first
returns-clause-first g c =
    let none : (q : Place) → Contains c.loop-next.waiting.items q → IsPassed c.args.self.now c.loop-next.marks.items q =
    λ q waits. ⊎_elim
    (λ on. absurd (none_in c.next_unmarked.new.waiting.items q c.in_default-next_unmarked.ensures.none on))
    (λ is. subst (λ l. IsPassed c.args.self.now l q) c.in_default-next_unmarked.ensures.same is)
    (c.in_default-next_unmarked.ensures.passed q waits) in
    first_listed c.args.self.now c.args.place c.loop-next.places.items c.loop-next.waiting.items c.loop-next.marks.items
    c.loop-next.invariant.first none
