-- Walks over the slots of an image: what holds of the first ones holds with another one.
use Rattle.std.proofs.Common.{◌≡◌, ◌<◌, ◌≤◌, ◌+◌, ◌||◌, ℕ, zero, suc, Bool, true, false, List, [], ◌∷◌, Some}
use Rattle.std.proofs.Common.{add-one, arith, length, slice_get, slice_set, take, if◌then◌else◌, refl}
use Rattle.std.proofs.Common.{◌≢◌, inl, inr, eq-eqb}
use Rattle.std.proofs.lemmas.Option.{slice_get_cases}
use Rattle.std.proofs.lemmas.Bool.{cases_eq}
use Rattle.generational_errors.specs.declared.error.Location.{Location}
use Rattle.store_images.specs.declared.image.CellImage.{CellImage}
use Rattle.store_images.specs.declared.image.CellImage.TheVariants as saved
use Rattle.std.specs.List.{list_any}
use Rattle.store_parts.specs.Lists.{how_many}
use Rattle.store_images.specs.declared.image.SlotImage.{SlotImage}
use Rattle.store_images.specs.Images.{HasTarget, HasTargetIn, is_referred_to, is_shared_in, refers_to_slot}

-- counted in the first elements, and with another one
pub counted_more : {A : Type 0} (p : A → Bool) (xs : List A) (i : ℕ) (x : A) → slice_get xs i ≡ Some x
    → how_many p (take (suc i) xs) ≡ how_many p (take i xs) + (if p x then 1 else 0)
counted_more p (y ∷ xs) zero x there = grind arith
counted_more p (y ∷ xs) (suc i) x there = let rest = counted_more p xs i x there in grind arith
counted_more p [] i x there = grind arith

-- so is what holds of some element
pub any_more : {A : Type 0} (p : A → Bool) (xs : List A) (i : ℕ) (x : A) → slice_get xs i ≡ Some x
    → list_any p (take (suc i) xs) ≡ (list_any p (take i xs) || p x)
any_more p (y ∷ xs) zero x there = grind arith
any_more p (y ∷ xs) (suc i) x there = let rest = any_more p xs i x there in grind arith
any_more p [] i x there = grind arith

module _ {T : Type 0} (slots : List (SlotImage T)) (i : ℕ) (s : SlotImage T)
    (there : slice_get slots i ≡ Some s) where
  -- if each one before has a target, and this one has, so have all up to it
  pub target_more : ((k : ℕ) → k < i → HasTarget slots (slice_get slots k)) → HasTarget slots (Some s)
      → (k : ℕ) → k < i + 1 → HasTarget slots (slice_get slots k)
  target_more before own k below = grind arith

  -- a slot that another one names
  pub referred_more : (k : ℕ) → is_referred_to (take (i + 1) slots) k ≡ (is_referred_to (take i slots) k || refers_to_slot k s.cell)
  referred_more k = rw add-one (any_more (λ s. refers_to_slot k s.cell) slots i s there)

-- an element that was written, and another
written : (xs : List Bool) (t : ℕ) → t < length xs → slice_get (slice_set xs t true) t ≡ Some true
written (x ∷ xs) zero within = refl
written (x ∷ xs) (suc t) within = written xs t (omega arith)
written [] t within = absurd (omega arith)

unwritten : (xs : List Bool) (t k : ℕ) → k ≢ t → slice_get (slice_set xs t true) k ≡ slice_get xs k
unwritten (x ∷ xs) zero zero apart = absurd (apart refl)
unwritten (x ∷ xs) zero (suc k) apart = refl
unwritten (x ∷ xs) (suc t) zero apart = refl
unwritten (x ∷ xs) (suc t) (suc k) apart = unwritten xs t k (λ e. apart (omega arith))
unwritten [] t k apart = refl

-- a shared value is within the slots
shared_within : {T : Type 0} (slots : List (SlotImage T)) (t g : ℕ) → is_shared_in (slice_get slots t) g ≡ true
    → t < length slots
shared_within slots t g is = elim (slice_get_cases slots t).1 [
  | inl w ↦ w.1
  | inr w ↦ absurd (let no = rw w.1 at is in grind arith)
]

-- what is named so far is noted, with another reference
pub noted_more : {T : Type 0} (slots : List (SlotImage T)) (i : ℕ) (s : SlotImage T) (t g : ℕ) (l : Location)
    (named : List Bool) → slice_get slots i ≡ Some s → s.cell ≡ saved.Reference t g l
    → length named ≡ length slots → is_shared_in (slice_get slots t) g ≡ true
    → ((k : ℕ) → k < length slots → slice_get named k ≡ Some (is_referred_to (take i slots) k))
    → (k : ℕ) → k < length slots
    → slice_get (slice_set named t true) k ≡ Some (is_referred_to (take (i + 1) slots) k)
noted_more slots i s t g l named there is long shared before k within =
    let more = referred_more slots i s there k in
    let inside = shared_within slots t g shared in
    elim (cases_eq k t) [
      | inl same ↦
          let put = written named t (omega arith) in
          let own = eq-eqb k t same in
          grind (arith)
      | inr apart ↦
          let kept = unwritten named t k apart in
          let old = before k within in
          grind (arith)
    ]

-- and with a slot that has no reference
unreferred : {T : Type 0} (k : ℕ) (c : CellImage T) → ((t g : ℕ) (l : Location) → c ≡ saved.Reference t g l → ⊥)
    → refers_to_slot k c ≡ false
unreferred k (saved.Reference t g l) none = absurd (none t g l refl)
unreferred k c none = refl

pub noted_still : {T : Type 0} (slots : List (SlotImage T)) (i : ℕ) (s : SlotImage T) (named : List Bool)
    → slice_get slots i ≡ Some s
    → ((t g : ℕ) (l : Location) → s.cell ≡ saved.Reference t g l → ⊥)
    → ((k : ℕ) → k < length slots → slice_get named k ≡ Some (is_referred_to (take i slots) k))
    → (k : ℕ) → k < length slots
    → slice_get named k ≡ Some (is_referred_to (take (i + 1) slots) k)
noted_still slots i s named there none before k within =
    let more = referred_more slots i s there k in
    let old = before k within in
    let no = unreferred k s.cell none in
    grind arith

no_target : {T : Type 0} (slots : List (SlotImage T)) (c : CellImage T)
    → ((t g : ℕ) (l : Location) → c ≡ saved.Reference t g l → ⊥) → HasTargetIn slots c
no_target slots (saved.Reference t g l) none = absurd (none t g l refl)
no_target slots c none = tt

pub untargeted : {T : Type 0} (slots : List (SlotImage T)) (s : SlotImage T)
    → ((t g : ℕ) (l : Location) → s.cell ≡ saved.Reference t g l → ⊥) → HasTarget slots (Some s)
untargeted slots s none = no_target slots s.cell none

pub targeted : {T : Type 0} (slots : List (SlotImage T)) (s : SlotImage T) (t g : ℕ) (l : Location)
    → s.cell ≡ saved.Reference t g l → is_shared_in (slice_get slots t) g ≡ true → HasTarget slots (Some s)
targeted slots s t g l is shared = grind arith

-- each slot is before the last, or there is none
pub all_targets : {T : Type 0} (slots : List (SlotImage T)) (i : ℕ) → length slots ≤ i
    → ((k : ℕ) → k < i → HasTarget slots (slice_get slots k)) → (k : ℕ) → HasTarget slots (slice_get slots k)
all_targets slots i long before k = elim (slice_get_cases slots k).1 [
  | inl w ↦ before k (omega arith)
  | inr w ↦ rw w.1 tt
]
