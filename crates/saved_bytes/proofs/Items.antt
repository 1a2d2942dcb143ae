-- Items that are written and read one after the other.
use Rattle.std.proofs.Common.{◌≡◌, ℕ, ◌+◌, ◌<◌, ◌≤◌, List, [], ◌∷◌, ◌++◌, length, refl, ap, sym, subst, ◌∙◌, arith, Ok, Err, Result, length-append, append_assoc}
use Rattle.std.proofs.lemmas.List.{append-nil}
use Rattle.std.specs.List.{AllByRecursion}
use Rattle.saved_bytes.specs.Forms.{Appends, Form, IsForm, spell, items_form}
use Rattle.saved_bytes.specs.Reading.{ArePairwise, AreReadAs, IsReadAs, ReadsAs, ReadsOnly}
use Rattle.saved_bytes.specs.declared.decode.DecodeError.{DecodeError}
use Rattle.saved_bytes.specs.declared.decode.DecodeError.TheVariants.{OutOfMemory}

module _ {X : Type 0} (form : X → Form) where
  -- another item at the end is written after the others
  pub spell_push : (xs : List X) (x : X) (rest : List ℕ)
      → spell (items_form form (xs ++ x ∷ [])) rest ≡ spell (items_form form xs) (spell (form x) rest)
  spell_push [] x rest = refl
  spell_push (y ∷ xs) x rest = ap (spell (form y)) (spell_push xs x rest)

  pub fits_push : (xs : List X) (x : X) → IsForm (items_form form xs) → IsForm (form x)
      → IsForm (items_form form (xs ++ x ∷ []))
  fits_push [] x h k = (k, tt)
  fits_push (y ∷ xs) x h k = (h.0, fits_push xs x h.1 k)

  -- the same bytes with one more item
  pub appends_more : (xs : List X) (x : X) (old mid new : List ℕ) → Appends (items_form form xs) old mid
      → Appends (form x) mid new → Appends (items_form form (xs ++ x ∷ [])) old new
  appends_more xs x old mid new p q = (
    fits_push xs x p.0 q.0,
    λ rest. q.1 rest ∙ (p.1 (spell (form x) rest)
        ∙ ap (λ (bytes : List ℕ). old ++ bytes) (sym (spell_push xs x rest))),
  )

  -- the bytes spell the items that were read
  pub record AreSpelled (from : List ℕ) (items : List X) (now : List ℕ) : Type 0 where
    pub fits : IsForm (items_form form items)
    pub only : from ≡ spell (items_form form items) now

  pub none_spelled : (from : List ℕ) → AreSpelled from [] from
  none_spelled from = record { fits = tt; only = refl }

  pub one_spelled : (from : List ℕ) (items : List X) (mid : List ℕ) (r : X) (new : List ℕ) → AreSpelled from items mid
      → ReadsOnly form mid (Ok r) new → AreSpelled from (items ++ r ∷ []) new
  one_spelled from items mid r new before only = record {
    fits = fits_push items r before.fits only.0;
    only = before.only ∙ (ap (spell (items_form form items)) only.1 ∙ sym (spell_push items r new));
  }

  -- items with the same forms
  pub same_forms : (xs ys : List X) → ArePairwise (λ x y. form y ≡ form x) xs ys → items_form form ys ≡ items_form form xs
  same_forms [] [] p = refl
  same_forms [] (y ∷ ys) p = absurd p
  same_forms (x ∷ xs) [] p = absurd p
  same_forms (x ∷ xs) (y ∷ ys) p = ap (λ f. Form.Both f (items_form form ys)) p.0 ∙ ap (Form.Both (form x)) (same_forms xs ys p.1)

  pub all_may : (xs : List X) → AllByRecursion (λ _. Unit {0}) xs
  all_may [] = tt
  all_may (x ∷ xs) = (tt, all_may xs)

-- lists with another pair at their ends
pairs_push : {X Y : Type 0} (R : X → Y → Type 0) (xs : List X) (ys : List Y) (x : X) (y : Y) → ArePairwise R xs ys → R x y
    → ArePairwise R (xs ++ x ∷ []) (ys ++ y ∷ [])
pairs_push R [] [] x y p r = (r, tt)
pairs_push R [] (z ∷ ys) x y p r = absurd p
pairs_push R (w ∷ xs) [] x y p r = absurd p
pairs_push R (w ∷ xs) (z ∷ ys) x y p r = (p.0, pairs_push R xs ys x y p.1 r)

pub pairs_long : {X Y : Type 0} (R : X → Y → Type 0) (xs : List X) (ys : List Y) → ArePairwise R xs ys → length xs ≡ length ys
pairs_long R [] [] p = refl
pairs_long R [] (z ∷ ys) p = absurd p
pairs_long R (w ∷ xs) [] p = absurd p
pairs_long R (w ∷ xs) (z ∷ ys) p = let rest = pairs_long R xs ys p.1 in omega arith

-- Of items xs with Here, which were spelled before other bytes, those are read that are like them.
module _ {X Y : Type 0} (Here : X → Type 0) (form : X → Form) (Same : X → Y → Type 0) where
  -- some of xs were read, and these are left
  pub record IsLeft (xs : List X) (rest : List ℕ) (items : List Y) (now : List ℕ) (front left : List X) : Type 0 where
    pub split : front ++ left ≡ xs
    pub same : ArePairwise Same front items
    pub here : AllByRecursion Here left
    pub fits : IsForm (items_form form left)
    pub bytes : now ≡ spell (items_form form left) rest

  pub record AreRead (count : ℕ) (from : List ℕ) (items : List Y) (now : List ℕ) : Type 0 where
    pub again : (xs : List X) (rest : List ℕ) → length xs ≡ count → AllByRecursion Here xs → IsForm (items_form form xs)
        → from ≡ spell (items_form form xs) rest → (front left : List X) × IsLeft xs rest items now front left

  pub none_read : (count : ℕ) (from : List ℕ) → AreRead count from [] from
  none_read count from = record {
    again = λ xs rest long here fits is.
        ([], xs, record { split = refl; same = tt; here = here; fits = fits; bytes = is });
  }

  left_long : (xs : List X) (rest : List ℕ) (items : List Y) (now : List ℕ) (front left : List X)
      → IsLeft xs rest items now front left → length items + length left ≡ length xs
  left_long xs rest items now front left l =
      omega (arith, length-append front left, ap length l.split, pairs_long Same front items l.same)

  left_more : (xs : List X) (rest : List ℕ) (items : List Y) (mid : List ℕ) (r : Y) (new : List ℕ) (front left : List X)
      → IsLeft xs rest items mid front left → length items < length xs → ReadsAs Here form Same mid (Ok r) new
      → (after last : List X) × IsLeft xs rest (items ++ r ∷ []) new after last
  left_more xs rest items mid r new front [] l below again =
      absurd (let long = left_long xs rest items mid front [] l in omega arith)
  left_more xs rest items mid r new front (y ∷ ys) l below again =
      let one = again y (spell (items_form form ys) rest) l.here.0 l.fits.0 l.bytes in (
        front ++ y ∷ [],
        ys,
        record {
          split = append_assoc front (y ∷ []) ys ∙ l.split;
          same = pairs_push Same front items y r l.same one.0;
          here = l.here.1;
          fits = l.fits.1;
          bytes = one.1;
        },
      )

  pub one_more : (count : ℕ) (from : List ℕ) (items : List Y) (mid : List ℕ) (r : Y) (new : List ℕ)
      → AreRead count from items mid → length items < count → ReadsAs Here form Same mid (Ok r) new
      → AreRead count from (items ++ r ∷ []) new
  one_more count from items mid r new before below again = record {
    again = λ xs rest long here fits is.
        let l = before.again xs rest long here fits is in
        left_more xs rest items mid r new l.0 l.1 l.2 (omega arith) again;
  }

  left_refused : (xs : List X) (rest : List ℕ) (items : List Y) (mid : List ℕ) (e : DecodeError) (new : List ℕ) (front left : List X)
      → IsLeft xs rest items mid front left → length items < length xs → ReadsAs Here form Same mid (Err e) new
      → e ≡ OutOfMemory
  left_refused xs rest items mid e new front [] l below again =
      absurd (let long = left_long xs rest items mid front [] l in omega arith)
  left_refused xs rest items mid e new front (y ∷ ys) l below again =
      again y (spell (items_form form ys) rest) l.here.0 l.fits.0 l.bytes

  pub one_refused : (count : ℕ) (from : List ℕ) (items : List Y) (mid : List ℕ) (e : DecodeError) (new : List ℕ)
      → AreRead count from items mid → length items < count → ReadsAs Here form Same mid (Err e) new
      → (xs : List X) (rest : List ℕ) → length xs ≡ count → AllByRecursion Here xs → IsForm (items_form form xs)
      → from ≡ spell (items_form form xs) rest → e ≡ OutOfMemory
  one_refused count from items mid e new before below again xs rest long here fits is =
      let l = before.again xs rest long here fits is in
      left_refused xs rest items mid e new l.0 l.1 l.2 (omega arith) again

  none_left : (xs : List X) (rest : List ℕ) (items : List Y) (now : List ℕ) (front left : List X)
      → IsLeft xs rest items now front left → length xs ≤ length items → ArePairwise Same xs items × (now ≡ rest)
  none_left xs rest items now front [] l all =
      (subst (λ (zs : List X). ArePairwise Same zs items) (sym (append-nil front) ∙ l.split) l.same, l.bytes)
  none_left xs rest items now front (y ∷ ys) l all =
      absurd (let long = left_long xs rest items now front (y ∷ ys) l in omega arith)

  pub all_read : (count : ℕ) (from : List ℕ) (items : List Y) (now : List ℕ) → AreRead count from items now
      → count ≤ length items → (xs : List X) (rest : List ℕ) → length xs ≡ count → AllByRecursion Here xs
      → IsForm (items_form form xs) → from ≡ spell (items_form form xs) rest → ArePairwise Same xs items × (now ≡ rest)
  all_read count from items now are all xs rest long here fits is =
      let l = are.again xs rest long here fits is in
      none_left xs rest items now l.0 l.1 l.2 (omega arith)

-- Items that were read as the parts of a whole.
pub as_one : {X Y V : Type 0} (Here : X → Type 0) (form : X → Form) (Same : X → Y → Type 0) (items : V → List Y) (Are : List X → Type 0)
    (whole : List X → Form) (xs : List X) (rest new : List ℕ) (r : Result V DecodeError) → AreReadAs Here form Same items xs rest r new
    → IsReadAs Are whole (λ zs v. ArePairwise Same zs (items v)) xs rest r new
as_one Here form Same items Are whole xs rest new (Ok v) h = h
as_one Here form Same items Are whole xs rest new (Err e) h = h
