-- Published locations, before and after others are added.
use Rattle.std.proofs.Common.{◌≡◌, ◌<◌, ◌≤◌, ◌++◌, ◌∙◌, ◌∷◌, ℕ, Bool, true, false, List, [], Some, arith, ap, if◌then◌else◌}
use Rattle.std.proofs.Common.{drop, length, refl, slice_get, sym, take}
use Rattle.std.proofs.lemmas.List.Folds.{list_any-append}
use Rattle.std.proofs.lemmas.List.{take-append-drop, take-append-le}
use Rattle.generational_errors.specs.Texts.{same_location}
use Rattle.generational_errors.specs.declared.error.Location.{Location}
use Rattle.generational_laws.proofs.callers.{get_take, take_within}
use Rattle.location_list.specs.Locations.{is_among, with_location}
use Rattle.handles.specs.Sites.{SiteState, told_in}

pub take_with : (n : ℕ) (list : List Location) (at : Location) → n ≤ length list
    → take n (with_location list at) ≡ take n list
take_with n list at le = by (is_among list at)
  where
    by : (b : Bool) → take n (if b then list else list ++ at ∷ []) ≡ take n list
    by true = refl
    by false = take-append-le n list (at ∷ []) le

-- what is published of a site stays so when more are
pub told_here : (s : SiteState) (site : ℕ) (l : Location) → site < s.told → slice_get s.all site ≡ Some l
    → slice_get (told_in s) site ≡ Some l
told_here s site l lt is = grind (arith, get_take)

pub told_more : (s t : SiteState) (site : ℕ) (l : Location) → s.told ≤ t.told → t.all ≡ s.all
    → slice_get (told_in s) site ≡ Some l → slice_get (told_in t) site ≡ Some l
told_more s t site l le same is =
    let lt = take_within s.all s.told site l is in
    get_take t.all t.told site (omega (arith, lt, le)) ∙ (ap (λ list. slice_get list site) same
    ∙ (sym (get_take s.all s.told site lt) ∙ is))

-- a location that isn't there isn't published
pub untold : (n : ℕ) (list : List Location) (at : Location) → is_among list at ≡ false
    → is_among (take n list) at ≡ false
untold n list at none =
    grind (arith, list_any-append (same_location at) (take n list) (drop n list), take-append-drop n list)
