-- Places, and sessions with the same replies.
use Rattle.boxes_script.specs.Told.{AreSameAt, AreSameBelow, LacksAt, plain_location, reply_told}
use Rattle.generational_errors.specs.Texts.{same_location, same_locations}
use Rattle.generational_errors.specs.declared.error.Location.{Location}
use Rattle.generational_errors.specs.declared.error.StoreError.TheVariants.{OutOfMemory}
use Rattle.generational_sessions.specs.declared.calls.Reply.{Reply}
use Rattle.generational_sessions.specs.{Places.as_reply, Numbered.refusal_in}
use Rattle.std.proofs.Common.{ap, arith, Bool, length, List, min, None, option_map, rules}
use Rattle.std.proofs.Common.{slice_get, Some, sym, ℕ, [], ⊎_elim, ◌+◌, ◌∙◌, ◌∷◌, ◌≡◌, ◌≢◌, ◌≤◌}
use Rattle.std.proofs.lemmas.Option.{none-some, same_Some, slice_get-map, slice_get_cases}
use Rattle.std.proofs.{lemmas.Slice.Eq.bytes_eq-Decides, lemmas.Bool.cases_lt}
use Rattle.std.proofs.{lemmas.Grind.common_steps, lemmas.Option.slice_get_past}
use Rattle.std.specs.Prelude.{map as list_map, String}
use Rattle.std.specs.{Bool.Decides, Cmp.Lexicographic.pointwise}
use borrow.Author.Count.{below_more}

-- ==== tests of locations, and of lists of them, decide whether they are the same

module _ {A B : Type 0} (E : A → A → Bool) (f : A → B)
    (decides : (a b : A) → Decides (E a b) (f a ≡ f b)) where
  pub lists_decide : (xs ys : List A) → Decides (pointwise E xs ys) (list_map f xs ≡ list_map f ys)
  lists_decide [] [] = search rules
  lists_decide [] (y ∷ ys) = search rules
  lists_decide (x ∷ xs) [] = search rules
  lists_decide (x ∷ xs) (y ∷ ys) =
      let h = decides x y in
      let more = lists_decide xs ys in
      grind (arith, common_steps, h, more)

pub locations_decide : (a b : Location) → Decides (same_location a b) (plain_location a ≡ plain_location b)
locations_decide a b =
    let h = bytes_eq-Decides a.file.now b.file.now in
    grind (arith, common_steps, h)

pub readers_decide : (xs ys : List Location)
    → Decides (same_locations xs ys) (list_map plain_location xs ≡ list_map plain_location ys)
readers_decide = lists_decide same_location plain_location locations_decide

-- ==== two lists of replies at a place, and past their ends

-- what a list turned by a function has at a place of the list, and past its end
turned_at : {A B : Type 0} (f : A → B) (xs : List A) (i : ℕ) (x : A) → slice_get xs i ≡ Some x
    → slice_get (list_map f xs) i ≡ Some (f x)
turned_at f xs i x there = slice_get-map f xs i ∙ ap (option_map f) there

turned_past : {A B : Type 0} (f : A → B) (xs : List A) (i : ℕ) → length xs ≤ i
    → slice_get (list_map f xs) i ≡ None
turned_past f xs i past = slice_get-map f xs i ∙ ap (option_map f) (slice_get_past xs i past)

turned_none : {A B : Type 0} (f : A → B) (xs : List A) (i : ℕ)
    → slice_get (list_map f xs) i ≡ None → length xs ≤ i
turned_none f xs i none = grind (arith, slice_get-map f xs i, slice_get_cases xs i)

module _ {Z : Type 0} where
  -- the call at a place failed to allocate exactly if its reply says so, and never past the end
  pub lacks_at : (zs : List (Reply (String Z))) (i : ℕ) (z : Reply (String Z))
      → slice_get zs i ≡ Some z → LacksAt zs i → refusal_in (as_reply z) ≡ Some OutOfMemory
  lacks_at zs i z there lacks =
      same_Some _ _ (sym (turned_at (λ x. refusal_in (as_reply x)) zs i z there) ∙ lacks)

  pub lacks_within : (zs : List (Reply (String Z))) (i : ℕ) → length zs ≤ i → LacksAt zs i → ⊥
  lacks_within zs i past lacks = none-some _ (sym (turned_past _ zs i past) ∙ lacks)

module _ {Z : Type 0} (xs ys : List (Reply (String Z))) where
  pub same_at : (i : ℕ) (x y : Reply (String Z))
      → slice_get xs i ≡ Some x → slice_get ys i ≡ Some y → reply_told x ≡ reply_told y
      → refusal_in (as_reply x) ≢ Some OutOfMemory → refusal_in (as_reply y) ≢ Some OutOfMemory
      → AreSameAt xs ys i
  same_at i x y at_x at_y same x_has y_has = record {
    same = turned_at reply_told xs i x at_x ∙ (ap Some same ∙ sym (turned_at reply_told ys i y at_y));
    one = λ lacks. x_has (lacks_at xs i x at_x lacks);
    other = λ lacks. y_has (lacks_at ys i y at_y lacks);
  }

  pub same_past : (i : ℕ) → length xs ≤ i → length ys ≤ i → AreSameAt xs ys i
  same_past i past_x past_y = record {
    same = turned_past reply_told xs i past_x ∙ sym (turned_past reply_told ys i past_y);
    one = lacks_within xs i past_x;
    other = lacks_within ys i past_y;
  }

  pub one_more : (n : ℕ) → AreSameBelow xs ys n → AreSameAt xs ys n → AreSameBelow xs ys (n + 1)
  one_more n below here = below_more (AreSameAt xs ys) n below here

  pub all_same : (n : ℕ) → AreSameBelow xs ys n → length xs ≤ n → length ys ≤ n
      → (i : ℕ) → AreSameAt xs ys i
  all_same n below xs_end ys_end i =
      ⊎_elim (below i) (λ past. same_past i (omega arith) (omega arith)) (cases_lt i n)

  -- if the lists have different lengths, the shorter one ends at a place that the longer one has
  pub ends_differ : (n : ℕ) → n ≡ min (length xs) (length ys) → length xs ≢ length ys
      → slice_get (list_map reply_told xs) n ≢ slice_get (list_map reply_told ys) n
  ends_differ n shorter lengths same = grind (
    arith,
    turned_none reply_told xs n,
    turned_none reply_told ys n,
    turned_past reply_told xs n,
    turned_past reply_told ys n,
  )

  -- and if a call there failed to allocate, the other list has ended
  pub other_ends : (n : ℕ) → n ≡ min (length xs) (length ys) → length xs ≢ length ys
      → LacksAt xs n → slice_get ys n ≡ None
  other_ends n shorter lengths lacks = grind (arith, slice_get_past ys n, lacks_within xs n)
