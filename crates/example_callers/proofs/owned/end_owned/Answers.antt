use Rattle.example_callers.proofs.{ap, AreFree, arith, box_answer, can_write, ended_owned, Err}
use Rattle.example_callers.proofs.{false, frees_owned, GenerationalBox, GenerationalPointer, leaves}
use Rattle.example_callers.proofs.{left_still, left_twice, List, listed_last, lists, Location}
use Rattle.example_callers.proofs.{made_free, Make, Meets, Name, name_apart, name_of, name_same, Ok}
use Rattle.example_callers.proofs.{or_cases, OwnerName, Ownership, ownership, pointer_of}
use Rattle.example_callers.proofs.{refl, Refusal, refused_make, release_leaves, Result, Some, State}
use Rattle.example_callers.proofs.{subst, sym, true, true≢false, [], ⊎_elim, ◌||◌, ◌∷◌, ◌≡◌}
use Rattle.example_callers.proofs.Sharing.Common.{owned}
use Rattle.generational_core.specs.Borrowing.{reach, refusal_to_write}
use Rattle.example_callers.proofs.owned.end_owned.Goals as goal

-- a record of one owner value, with these boxes
abbrev one_owner : List Name → Ownership
one_owner names = record { names = names; count = 1 }

module _ {T : Type 0} where
  -- boxes of one name may be written alike, if they reach something
  same_free : (S : State T) (a b : GenerationalPointer) (m : Name)
      → can_write S a ≡ true → name_of a ≡ name_of b → reach S b ≡ Some m → can_write S b ≡ true
  unfolding reach refusal_to_write
  same_free S a b m free same to = grind arith

  -- after a making by a new owner, even one that failed, nothing that the owner lists is borrowed
  record Lists (S : State T) (o : OwnerName) : Type 0 where
    names : List Name
    held : ownership S o ≡ Some (one_owner names)
    free : AreFree S names

  after_making : {S R : State T} (o : OwnerName) (v : T) (l : Location)
      (r : Result (GenerationalBox T) (Refusal T)) → ownership S o ≡ Some (one_owner [])
      → Meets S (Make (Some o) v l) (box_answer r) R → Lists R o
  after_making {R = R} o v l (Ok b) new m = record {
    names = name_of (pointer_of b) ∷ [];
    held = lists o v l (Ok b) m _ new;
    free = λ c n there to gone. same_free R (pointer_of b) c n (made_free (Some o) v l (Ok b) m)
        (⊎_elim (λ is. sym (name_same (name_of c) (name_of (pointer_of b)) is))
        (λ none. absurd (true≢false (sym none))) (or_cases _ _ there)) to;
  }
  after_making o v l (Err e) new m = record {
    names = [];
    held = rw (refused_make _ (Err e) m) new;
    free = λ c n there. cc;
  }

pub unreachable-requires : goal.unreachable-requires
unreachable-requires g c =
    let new = owned (Ok c.in_ok-owner.owner) c.in_ok-owner.ensures in
    let all = after_making _ _ _ c.insert-made.result new c.insert-made.ensures.step in
    true≢false (sym (frees_owned _ _ {U = Unit {0}} (Err (c.in-Err.owner, c.in-Err.field-0-1))
    all.held all.free c.in-Err.ensures.step))

pub returns-in-Ok-made-clause-ended : goal.returns-in-Ok-made-clause-ended
returns-in-Ok-made-clause-ended g c =
    let new = owned (Ok c.in_ok-owner.owner) c.in_ok-owner.ensures in
    let held = lists _ _ _ (Ok c.in-Ok-made.made) c.in-Ok-made.ensures.step _ new in
    ended_owned _ {V = OwnerName} (Ok c.in-Ok.field-0) (g.met.S.AnyStorage.sound _)
    c.in-Ok.ensures.step _ _ held (omega arith) (listed_last [] _)

pub returns-in-Err-made-clause-left : goal.returns-in-Err-made-clause-left
returns-in-Err-made-clause-left g c b =
    let sound = g.met.S.AnyStorage.sound in
    let new = owned (Ok c.in_ok-owner.owner) c.in_ok-owner.ensures in
    let still = refused_make _ (Err c.in-Err-made.field-0) c.in-Err-made.ensures.step in
    let held = rw (← still) at new in
    left_twice (left_twice (leaves _ _ _ _ (sound _) c.in_ok-owner.ensures b tt tt)
    (left_still b still)) (release_leaves _ _ _ _ (sound _) c.in-Ok.ensures.step _ held b refl)

pub returns-in-Ok-made-clause-others : goal.returns-in-Ok-made-clause-others
returns-in-Ok-made-clause-others g c b other =
    let sound = g.met.S.AnyStorage.sound in
    let new = owned (Ok c.in_ok-owner.owner) c.in_ok-owner.ensures in
    let held = lists _ _ _ (Ok c.in-Ok-made.made) c.in-Ok-made.ensures.step _ new in
    left_twice (left_twice (leaves _ _ _ _ (sound _) c.in_ok-owner.ensures b tt tt)
    (leaves _ _ _ _ (sound _) c.in-Ok-made.ensures.step b tt other))
    (release_leaves _ _ _ _ (sound _) c.in-Ok.ensures.step _ held b
    (ap (λ x. x || false) (name_apart (name_of b) _ (λ e. other (sym e)))))
