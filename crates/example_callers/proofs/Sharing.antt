-- What the callers share.
pub mod Common
use Rattle.example_callers.specs.Table.{RowsState}
unfoldable pub use Common.*

-- ==== a shared value with two references, and what more callers share

-- what follows if there is a value, and if there is none
pub either : {A N Q : Type 0} {P : A → Type 0} (r : Option A) → IfSome r P → IfNone r N
    → ((a : A) → P a → Q) → (N → Q) → Q
either None some none given missing = missing none
either (Some a) some none given missing = given a some

module _ {T : Type 0} where
  -- a writer's guard is released to its own store
  pub release_lost : {S R Q : State T} (b : GenerationalPointer) (l : Location) (w now : WriteGuard T)
      (v back : T) → Meets S (Write b l) (Writes w.guard w.value) R
      → Meets R (ReleaseWriter now.guard now.value) (Back back) Q → now ≡ record w { value = v } → ⊥
  release_lost b l w now v back write release is =
      true≢false (sym (written_by b l w now v {U = Unit {0}} (Err back) write release is).0)

  -- what holds after a shared value was made in S, and then a second reference to it
  pub record Paired (S Q : State T) (v : T) (first second : GenerationalPointer) : Type 0 where
    pub others : (b : GenerationalPointer) → IsGiven S (name_of b) → IsUnchanged S b Q
    pub beside : (b : GenerationalPointer) → IsGiven S (name_of b) → reach Q b ≢ reach Q first
    pub together : reach Q second ≡ reach Q first
    pub apart : name_of first ≢ name_of second
    pub free : can_write Q first ≡ true
    pub free_too : can_write Q second ≡ true
    pub seen : value_in Q second ≡ Some v
    pub next : Q.next ≡ S.next

  pub paired : {S R Q : State T} (v : T) (l : Location) (a b : GenerationalBox T) → IsSound S → IsSound R
      → Meets S (MakeShared None v l) (Made (pointer_of a)) R
      → Meets R (Refer None (pointer_of a)) (Made (pointer_of b)) Q
      → Paired S Q v (pointer_of a) (pointer_of b)
  paired {S} v l a b s r step made =
      let first = made_shared None v l (Ok a) step in
      let alone = made_shared_free None v l (Ok a) step in
      let apart = referred_apart None _ (Ok b) r made _ _ first in
      let same = leaves _ _ _ _ r made _ tt apart in
      let left = λ (c : GenerationalPointer) (given : IsGiven S (name_of c)).
      left_given _ _ r made c tt (meets_given _ _ _ _ step _ given) in record {
        others = λ c given. left_twice (left_given _ _ s step c tt given) (left c given);
        beside = λ c given is.
            shared_apart v l _ s step c given (sym same.reached ∙ (sym is ∙ (left c given).reached));
        together = referred_together None _ (Ok b) r made;
        apart = λ e. apart (sym e);
        free = keeps_free _ _ r made _ tt alone;
        free_too = referred_free None _ b r made alone;
        seen = referred None _ (Ok b) r made ∙ first;
        next = referred_next _ _ made ∙ (shares v l _ step).next;
      }

-- ==== what a caller knows of a table, part by part

pub same_table : {T : Type 0} {rows shown : List (Option T)} (next next' : ℕ) → rows ≡ shown
    → next ≡ next' → ◌≡◌ {A = RowsState T} (record { rows = rows; looks = last_ticket - next })
    (record { rows = shown; looks = last_ticket - next' })
same_table next next' same tickets = λ i. record {
  rows = same i;
  looks = last_ticket - tickets i;
}
