-- Graphs of cells and memos: what a call leaves of them.
pub mod Known
unfoldable pub use Known.*
use Rattle.reactive.proofs.Linking.{doubted_more}
use Rattle.reactive.specs.declared.fault.Fault.TheVariants as fault
use Rattle.reactive.specs.declared.look.Step.TheVariants as step
use Rattle.reactive.specs.Hearing.{effect_named, named_key}
use Rattle.std.specs.Prelude.{◌*◌, ◌-◌}

-- ==== what holds of a table when nodes are added, set or removed

-- a node has no cached reads, and no value unless it is a source, and has changed in this revision
pub record IsReset {T R : Type 0} (now : ℕ) (n : Node T R) : Type 0 where
  pub asked : vec_items n.reads ≡ []
  pub plain : (v : T) → n.value ≡ Some v → n.rule ≡ None
  pub changed : n.changed ≡ now
  pub checked : n.checked ≤ now

-- so what is cached is what its plan yields
reset_gives : {T R : Type 0} (plan : R → Plan T) (now : ℕ) (n : Node T R) → IsReset now n → (v : T) → n.value ≡ Some v
    → plan_by plan n.rule n.value ≡ Give v
reset_gives plan now n reset v is = rw (reset.plain v is, is) refl

some_value : {X : Type 0} (o : Option X) → is_some o ≡ true → (x : X) × (o ≡ Some x)
some_value (Some x) is = (x, refl)
some_value None is = absurd (true≢false (sym is))

some_in : {X : Type 0} (o : Option X) → o ≢ None → (x : X) × (o ≡ Some x)
some_in (Some x) live = (x, refl)
some_in None live = absurd (live refl)

-- ---- each memo that is still known after some nodes were forgotten reads only what is unchanged

in_rest : {X : Type 0} (x : X) (xs : List X) (y : X) → Contains xs y → Contains (x ∷ xs) y
in_rest x xs y (k, lt, is) = (suc k, omega (arith, lt), is)

in_first : {X : Type 0} (x : X) (xs : List X) → Contains (x ∷ xs) x
in_first x xs = (0, omega arith, refl)

module _ {T R : Type 0} (old new : Book T R) where
  abbrev IsStill : Key → Type 0
  IsStill k = (new.known k.id.slot ≡ old.known k.id.slot) × (new.nodes k ≡ old.nodes k)

  still_shows : (k : Key) (v : T) → IsStill k → Shows old k v → Shows new k v
  still_shows k v (known, node) (n, at, (has, why)) =
      (n, node ∙ at, (has, ⊎_elim (λ none. inl none) (λ is. inr (ap (λ o. holds o k.id.generation) known ∙ is)) why))

  still_known : (answers : List (Asked T)) → ((k : Key) → Contains (list_map (λ a. a.key) answers) k → IsStill k)
      → AreKnown old answers → AreKnown new answers
  still_known [] still all = tt
  still_known (a ∷ rest) still (h, all) = (
    still_shows a.key a.value (still a.key (in_first a.key (list_map (λ x. x.key) rest))) h,
    still_known rest (λ k in_it. still k (in_rest a.key (list_map (λ x. x.key) rest) k in_it)) all,
  )

module _ {T R : Type 0} {plan : R → Plan T} {G : Graph T} {now : ℕ} {old : Book T R} (new : Book T R)
    (s : IsSound plan G now old) (f : AreForgotten old new) where
  known_before : (k : Key) → knows new.known k ≡ true → (knows old.known k ≡ true) × (new.nodes k ≡ old.nodes k)
  known_before k is = (
    is_knows old.known k (f.fewer k.id.slot k.id.generation (knows_is new.known k is)),
    ⊎_elim (λ same. same) (λ none. absurd (none_knows new.known k none is)) (f.here k),
  )

  answers_known : (k : Key) (n : Node T R) (v : T) → old.nodes k ≡ Some n → knows new.known k ≡ true
      → (h : IsMemoKnown G old k n v) → AreKnown new h.answers
  answers_known k n v at is h =
      let still = knows_is new.known k is in
      let own = s.links.owned k.id.slot k.id.generation (f.fewer k.id.slot k.id.generation still) in
      still_known old new h.answers
      (λ a in_it. let link = s.links.linked k n at own a (rw h.asked at in_it) in
      let same = f.others k.id.slot a.id.slot k.id.generation still link in (same.0, same.1 a refl))
      h.known

  plan_still : (k : Key) → new.nodes k ≡ old.nodes k → G k ≡ graph_of plan new.nodes k
  plan_still k same = sym (s.same k) ∙ sym (ap (plan_at plan) same)

  -- what a plan yields by what is still known, it still yields
  over : (p : Plan T) (v : T) → Yields G p v → (answers : List (Asked T)) (w : T)
      → Follows p answers (Give w) → AllMean G answers → AreKnown new answers → Yields (graph_of plan new.nodes) p v
  over _ _ (gives v) answers w lead all known = gives v
  over _ _ (goes_on k next a v d e) [] w lead all known = cc
  over _ _ (goes_on k next a v d e) (b ∷ rest) w (at, lead) (mean, all) (shows, known) =
      let one : a ≡ b.value = same G (G k) a d b.value (rw at mean) in
      let here : Shows new k a = rw (at, one) shows in
      let it = here.0 in
      let given : Means (graph_of plan new.nodes) k a = ⊎_elim
      (λ none. let e : graph_of plan new.nodes k ≡ Give a = cc in rw e (gives a))
      (λ is. let before = known_before k is in
      let was = sym before.1 ∙ here.1 in
      let h = s.held k it was before.0 a here.2.0 in
      rw (← plan_still k before.1) (over (G k) a d h.answers a h.leads h.mean (answers_known k it a was is h)))
      here.2.1 in
      goes_on k next a v given (over (next a) v e rest w (rw one lead) all known)

  mean_still : (k : Key) (v : T) → Means G k v → Shows new k v → Means (graph_of plan new.nodes) k v
  mean_still k v d (n, at, (has, why)) = ⊎_elim
      (λ none. let e : graph_of plan new.nodes k ≡ Give v = cc in rw e (gives v))
      (λ is. let before = known_before k is in
      let was = sym before.1 ∙ at in
      let h = s.held k n was before.0 v has in
      rw (← plan_still k before.1) (over (G k) v d h.answers v h.leads h.mean (answers_known k n v was is h)))
      why

  all_mean_still : (answers : List (Asked T)) → AllMean G answers → AreKnown new answers
      → AllMean (graph_of plan new.nodes) answers
  all_mean_still [] all known = tt
  all_mean_still (a ∷ rest) (d, all) (shows, known) =
      (mean_still a.key a.value d shows, all_mean_still rest all known)

  pub held_still : (k : Key) (n : Node T R) → new.nodes k ≡ Some n → knows new.known k ≡ true
      → (v : T) → n.value ≡ Some v → IsMemoKnown (graph_of plan new.nodes) new k n v
  held_still k n at is v has =
      let before = known_before k is in
      let was = sym before.1 ∙ at in
      let h = s.held k n was before.0 v has in
      let known = answers_known k n v was is h in record {
        answers = h.answers;
        asked = h.asked;
        leads = rw (← plan_still k before.1) h.leads;
        mean = all_mean_still h.answers h.mean known;
        known = known;
      }

-- Each node is unchanged, or was reset; no result that is meant is that of a node which was reset, and
-- results that were meant are.
module _ {T R : Type 0} {plan : R → Plan T} {G : Graph T} {now : ℕ} (next : ℕ) {old : Book T R} (new : Book T R)
    (s : IsSound plan G now old) (f : AreForgotten old new) (later : now ≤ next) (New : Key → Type 0)
    (each : (j : Key) (m : Node T R) → new.nodes j ≡ Some m
    → (old.nodes j ≡ Some m) ⊎ (IsReset next m × New j))
    (never : (since : ℕ) (a : Asked T) → since ≤ now → (since ≡ now → Means G a.key a.value)
    → New a.key → next ≤ since → ⊥)
    (known : (since : ℕ) (answers : List (Asked T)) → since ≤ now → since ≡ next
    → (since ≡ now → AllMean G answers) → AllMean (graph_of plan new.nodes) answers) where
  stands : (since : ℕ) → since ≤ now → (a : Asked T) → (since ≡ now → Means G a.key a.value)
      → IsStillValid old.nodes since a → IsStillValid new.nodes since a
  stands since le a mean h m there low = grind arith

  walk : (k : Key) (n : Node T R) → new.nodes k ≡ Some n → (v : T) → n.value ≡ Some v
      → (old.nodes k ≡ Some n) ⊎ (IsReset next n × New k)
      → IsWalk (graph_of plan new.nodes) next new.nodes k n v
  walk k n at v value (inl was) =
      let w = s.walks k n was v value in
      let low = s.checked k n was in
      let plans : G k ≡ plan_at plan (new.nodes k) = cc (s.same k) in record {
        answers = w.answers;
        asked = w.asked;
        leads = rw plans at w.leads;
        stand = stand_all G now n.checked old.nodes new.nodes (stands n.checked low) w.answers w.fresh w.stand;
        fresh = λ e. known n.checked w.answers low e w.fresh;
      }
  walk k n at v value (inr (reset, is_new)) = record {
    answers = [];
    asked = sym reset.asked;
    leads = rw at (reset_gives plan next n reset v value);
    stand = tt;
    fresh = λ e. tt;
  }

  reads_linked : (k : Key) (n : Node T R) → Owns new.web k → (a : Key) → Contains (vec_items n.reads) a
      → (old.nodes k ≡ Some n) ⊎ (IsReset next n × New k) → IsSlotLinked new.web k.id.slot a.id.slot
  reads_linked k n owns a in_it (inl was) =
      subst (λ w. IsSlotLinked w k.id.slot a.id.slot) (sym f.web)
      (s.links.linked k n was (subst (λ w. Owns w k) f.web owns) a in_it)
  reads_linked k n owns a in_it (inr (reset, is_new)) =
      let nothing : Contains [] a = rw reset.asked at in_it in absurd (omega (arith, nothing.1))

  reads_exact : (k : Key) (n : Node T R) → n.rule ≢ None → n.value ≢ None → Owns new.web k
      → (old.nodes k ≡ Some n) ⊎ (IsReset next n × New k)
      → (r : ℕ) → IsSlotLinked new.web k.id.slot r → (a : Key) × Contains (vec_items n.reads) a × (a.id.slot ≡ r)
  reads_exact k n rule value owns (inl was) r link =
      s.links.exact k n was rule value (subst (λ w. Owns w k) f.web owns) r
      (subst (λ w. IsSlotLinked w k.id.slot r) f.web link)
  reads_exact k n rule value owns (inr (reset, is_new)) r link =
      let v = some_in n.value value in absurd (rule (reset.plain v.0 v.1))

  known_whole : (k : Key) (n : Node T R) (g : ℕ) → new.nodes k ≡ Some n → new.known k.id.slot ≡ Some g
      → (k.id.generation ≡ g) × (n.rule ≢ None) × (n.value ≢ None)
  known_whole k n g at is = ⊎_elim
      (λ same. s.links.whole k n g (sym same ∙ at) (f.fewer k.id.slot g is))
      (λ none. absurd (none-some g (sym none ∙ is)))
      (f.here k)

  bounds : (k : Key) (n : Node T R) → (old.nodes k ≡ Some n) ⊎ (IsReset next n × New k)
      → (n.checked ≤ next) × (n.changed ≤ next)
  bounds k n (inl was) = (omega (arith, s.checked k n was, later), omega (arith, s.changed k n was, later))
  bounds k n (inr (reset, is_new)) = (reset.checked, omega (arith, reset.changed))

  changed_sound : IsSound plan (graph_of plan new.nodes) next new
  changed_sound = record {
    same = λ k. refl;
    walks = λ k n at v value. walk k n at v value (each k n at);
    held = held_still new s f;
    checked = λ k n at. (bounds k n (each k n at)).0;
    changed = λ k n at. (bounds k n (each k n at)).1;
    links = record {
      linked = λ k n at owns a in_it. reads_linked k n owns a in_it (each k n at);
      exact = λ k n at rule value owns r link. reads_exact k n rule value owns (each k n at) r link;
      whole = known_whole;
      numbered = subst AreNumbered (sym f.web) s.links.numbered;
      owned = λ r g is. subst (λ w. (owner_at (vec_items w.owners) r).generation ≡ Some g) (sym f.web)
          (s.links.owned r g (f.fewer r g is));
    };
  }

module _ {T R : Type 0} {plan : R → Plan T} {G : Graph T} {now : ℕ} {old : Book T R} (new : Book T R)
    (s : IsSound plan G now old) (f : AreForgotten old new) where
  module _ (k : Key) (n : Node T R) (put : IsPut old.nodes k n new.nodes) where
    each_put : (next : ℕ) (New : Key → Type 0) → IsReset next n → New k → (j : Key) (m : Node T R)
        → new.nodes j ≡ Some m → (old.nodes j ≡ Some m) ⊎ (IsReset next m × New j)
    each_put next New reset is_new j m there = grind (arith, key_cases)

    -- a node was set, in a later revision
    pub set_sound : (next : ℕ) → now < next → IsReset next n → IsSound plan (graph_of plan new.nodes) next new
    set_sound next later reset = changed_sound next new s f (omega (arith, later)) (λ j. Unit {0})
        (each_put next (λ j. Unit {0}) reset tt)
        (λ since a le mean is_new low. omega (arith, le, low, later))
        (λ since answers le e mean. absurd (let wrong : ⊥ = omega (arith, le, e, later) in wrong))

    -- a node was added, where none was
    pub made_sound : old.nodes k ≡ None → IsReset now n → IsSound plan (graph_of plan new.nodes) now new
    made_sound none reset = changed_sound now new s f (omega arith) (λ j. G j ≡ Stop)
        (each_put now (λ j. G j ≡ Stop) reset (none_stops s k none))
        (λ since a le mean stops low. let e : since ≡ now = omega (arith, le, low) in
        stopped G a.value (rw stops at (mean e)))
        (λ since answers le e mean. grown_all G (graph_of plan new.nodes)
        (λ j. grind (arith, key_cases j k, s.same j, put.others j)) answers (mean e))

  -- nodes were removed, in a later revision
  pub ended_sound : (next : ℕ) → now < next → ((j : Key) → (new.nodes j ≡ None) ⊎ (new.nodes j ≡ old.nodes j))
      → IsSound plan (graph_of plan new.nodes) next new
  ended_sound next later left = changed_sound next new s f (omega (arith, later)) (λ j. ⊥)
      (λ j m there. grind (arith, left j))
      (λ since a le mean wrong low. wrong)
      (λ since answers le e mean. absurd (let wrong : ⊥ = omega (arith, le, e, later) in wrong))

-- ---- what marking leaves of a book whose node was changed

module _ {T R : Type 0} (old new : Book T R) (k : Key) (web : new.web ≡ old.web)
    (first now : List Mark) (before : old.known ≡ known_at first) (after : new.known ≡ known_at now)
    (f : HasForgotten old.web first k.id.slot now) (others : (j : Key) → j ≢ k → new.nodes j ≡ old.nodes j) where
  at_before : (r : ℕ) → old.known r ≡ known_at first r
  at_before r = ap (λ h. h r) before

  at_after : (r : ℕ) → new.known r ≡ known_at now r
  at_after r = ap (λ h. h r) after

  pub forgotten : AreForgotten old new
  forgotten = record {
    web = web;
    fewer = λ r g is. at_before r ∙ f.fewer r g (sym (at_after r) ∙ is);
    here = λ j. ⊎_elim
        (λ same. inr (at_after j.id.slot ∙ (ap (λ x. known_at now x.id.slot) same ∙ f.here)))
        (λ other. inl (others j other))
        (key_cases j k);
    others = λ r s g is link.
        let left = f.others r s g (sym (at_after r) ∙ is) link in (
          at_after s ∙ (left.1 ∙ sym (at_before s)),
          λ j at. others j (λ same. left.0 (sym at ∙ ap (λ x. x.id.slot) same)),
        );
  }

pub forgotten_more : {T R : Type 0} (old mid new : Book T R) → AreForgotten old mid → AreForgotten mid new
    → AreForgotten old new
forgotten_more old mid new f g = record {
  web = g.web ∙ f.web;
  fewer = λ r v is. f.fewer r v (g.fewer r v is);
  here = λ k. ⊎_elim
      (λ same. ⊎_elim (λ was. inl (same ∙ was)) (λ none. inr (still_nothing k none)) (f.here k))
      (λ none. inr none)
      (g.here k);
  others = λ r s v is link.
      let one = f.others r s v (g.fewer r v is) link in
      let two = g.others r s v is (subst (λ w. IsSlotLinked w r s) (sym f.web) link) in
      (two.0 ∙ one.0, λ k at. two.1 k at ∙ one.1 k at);
} where
  still_nothing : (k : Key) → mid.known k.id.slot ≡ None → new.known k.id.slot ≡ None
  still_nothing k none = by_cases (new.known k.id.slot) (λ v is. g.fewer k.id.slot v is) where
    by_cases : (o : Option ℕ) → ((v : ℕ) → o ≡ Some v → mid.known k.id.slot ≡ Some v) → o ≡ None
    by_cases None h = refl
    by_cases (Some v) h = absurd (none-some v (sym none ∙ h v refl))

pub forgotten_none : {T R : Type 0} (b : Book T R) → AreForgotten b b
forgotten_none b = record {
  web = refl;
  fewer = λ r g is. is;
  here = λ k. inl refl;
  others = λ r s g is link. (refl, λ k at. refl);
}

-- ==== what holds of a book when one of its nodes is settled, and that it leaves what was found before

module _ {T R : Type 0} {G : Graph T} {now : ℕ} {old new : Book T R} (l : LeavesBook G now old new) where
  pub known_left : (answers : List (Asked T)) → AreKnown old answers → AreKnown new answers
  known_left [] all = tt
  known_left (a ∷ rest) (h, all) = (l.known a.key a.value h, known_left rest all)

  unfoldable pub walk_left : (k : Key) (n : Node T R) (v : T) → n.checked ≤ now → IsWalk G now old.nodes k n v
      → IsWalk G now new.nodes k n v
  walk_left k n v le w = record {
    answers = w.answers;
    asked = w.asked;
    leads = w.leads;
    stand = stand_all G now n.checked old.nodes new.nodes (λ a. l.stand n.checked a le) w.answers w.fresh w.stand;
    fresh = w.fresh;
  }

  held_left : (k : Key) (n : Node T R) (v : T) → IsMemoKnown G old k n v → IsMemoKnown G new k n v
  held_left k n v h = record {
    answers = h.answers;
    asked = h.asked;
    leads = h.leads;
    mean = h.mean;
    known = known_left h.answers h.known;
  }

-- what is known holds at any time
known_stand : {T R : Type 0} (b : Book T R) (since : ℕ) (answers : List (Asked T))
    → AreKnown b answers → AllStand b.nodes since answers
known_stand b since [] all = tt
known_stand b since (a ∷ rest) ((m, at, (has, known)), all) =
    (λ n is le. cc, known_stand b since rest all)

-- ---- nothing is lost if memory ran out

module _ {T R : Type 0} {plan : R → Plan T} {G : Graph T} {now : ℕ} {old new : Book T R}
    (s : IsSound plan G now old) (left : IsLeft old new) where
  left_still : (k : Key) → IsStill old new k
  left_still k = (left.known k.id.slot, left.nodes k)

  pub left_leaves : LeavesBook G now old new
  left_leaves = record {
    known = λ k v shows. still_shows old new k v (left_still k) shows;
    stand = λ since a le mean h n at low. h n (sym (left.nodes a.key) ∙ at) low;
    same = λ k. inl (left.nodes k);
  }

  was_there : (k : Key) (n : Node T R) → new.nodes k ≡ Some n → old.nodes k ≡ Some n
  was_there k n at = sym (left.nodes k) ∙ at

  pub left_sound : IsSound plan G now new
  left_sound = record {
    same = λ k. ap (plan_at plan) (left.nodes k) ∙ s.same k;
    walks = λ k n at v has. walk_left left_leaves k n v (s.checked k n (was_there k n at)) (s.walks k n (was_there k n at) v has);
    held = λ k n at is v has. held_left left_leaves k n v
        (s.held k n (was_there k n at) (sym (ap (λ o. holds o k.id.generation) (left.known k.id.slot)) ∙ is) v has);
    checked = λ k n at. s.checked k n (was_there k n at);
    changed = λ k n at. s.changed k n (was_there k n at);
    links = record {
      linked = λ k n at owns a in_it. left.web.links k.id.slot a.id.slot (s.links.linked k n (was_there k n at)
          (sym (ap (λ o. o.generation) (left.web.owners k.id.slot)) ∙ owns) a in_it);
      exact = λ k n at rule value owns r link. s.links.exact k n (was_there k n at) rule value
          (sym (ap (λ o. o.generation) (left.web.owners k.id.slot)) ∙ owns) r
          (left.web.only s.links.numbered k.id.slot r link);
      owned = λ r g is. ap (λ o. o.generation) (left.web.owners r) ∙ s.links.owned r g (sym (left.known r) ∙ is);
      whole = λ k n g at is. s.links.whole k n g (was_there k n at) (sym (left.known k.id.slot) ∙ is);
      numbered = left.web.numbered s.links.numbered;
    };
  }

-- ---- a node is settled with what a look has found

-- two nodes of one slot are one
abbrev pub IsApart : {T R : Type 0} → NodeTable T R → Key → Type 0
IsApart nodes k = (j : Key) → nodes j ≢ None → j.id.slot ≡ k.id.slot → j ≡ k

is_there : {X : Type 0} (o : Option X) → o ≢ None → is_some o ≡ true
is_there (Some x) live = refl
is_there None live = absurd (live refl)

pub slots_apart : {T R : Type 0} (S : State (Node T R)) → IsSoundStore S → IsSimple S → (k : Key)
    → nodes_in S k ≢ None → IsApart (nodes_in S) k
slots_apart S s simple k live j lives slot =
    let here = is_there _ live in
    let there = is_there _ lives in
    let name : name_of (key_pointer j) ≡ name_of (key_pointer k) =
    simple.bounded.last (name_of (key_pointer j)) (seen_cell S (key_pointer j) there)
    ∙ (ap (last_name S) slot ∙ sym (simple.bounded.last (name_of (key_pointer k)) (seen_cell S (key_pointer k) here))) in
    same_key j k (one_id S (key_pointer j) (key_pointer k) s there here name)

pub names_apart : {T R : Type 0} (S : State (Node T R)) → IsSoundStore S → IsSimple S → (k : Key) (n : Node T R)
    → nodes_in S k ≡ Some n → IsApart (nodes_in S) k
names_apart S s simple k n at = slots_apart S s simple k (λ none. none-some n (sym none ∙ at))

pub live_there : {X : Type 0} {o : Option X} {x : X} → o ≡ Some x → o ≢ None
live_there at none = none-some _ (sym none ∙ at)

-- a node whose links are its own is linked to what it reads
pub relinked_still : {T R : Type 0} {plan : R → Plan T} {G : Graph T} {now : ℕ} {b : Book T R}
    → IsSound plan G now b → (k : Key) (n : Node T R) → b.nodes k ≡ Some n → n.rule ≢ None → n.value ≢ None
    → Owns b.web k → IsRelinked b.web k (vec_items n.reads) b.web
relinked_still s k n at rule value owned = record {
  owned = owned;
  linked = λ a in_it. s.links.linked k n at owned a in_it;
  exact = λ below r link. s.links.exact k n at rule value owned r link;
  owners = λ r ne. refl;
  links = λ r t ne link. link;
  only = λ below r t ne link. link;
  numbered = λ below. below;
}

module _ {T R : Type 0} {plan : R → Plan T} {G : Graph T} {now : ℕ} where
  -- a step that leaves a book as it was, or loses nothing of it
  pub as_it_was : {b : Book T R} → IsSound plan G now b → (k : Key) (step : Step) → Stepped G now b k step
      → IsAdvanced plan G now b k step b
  as_it_was s k step so = record {
    sound = s;
    leaves = record { known = λ j v h. h; stand = λ since a le mean h. h; same = λ j. inl refl };
    stepped = so;
  }

  pub ran_out : {old new : Book T R} → IsSound plan G now old → IsLeft old new → (k : Key) (step : Step)
      → Stepped G now new k step → IsAdvanced plan G now old k step new
  ran_out s left k step so = record { sound = left_sound s left; leaves = left_leaves s left; stepped = so }

module _ {T R : Type 0} {plan : R → Plan T} {G : Graph T} {now : ℕ} {old new : Book T R}
    (s : IsSound plan G now old) (k : Key) (was is : Node T R) (v : T) (reads : Vec Key)
    (at : old.nodes k ≡ Some was) (l : PlanLeadsTo G now old k was v (vec_items reads))
    (settled : IsNodeSettled was v reads now is) (put : IsPut old.nodes k is new.nodes)
    (learned : IsLearned old k new) (links : IsRelinked old.web k (vec_items reads) new.web)
    (apart : IsApart old.nodes k) where
  means : Means G k v
  means = walked G (G k) l.answers (Give v) v l.leads (all_mean s l.answers l.known) (gives v)

  shown : Shows new k v
  shown = (is, put.here, (settled.value, inr (is_knows new.known k learned.here)))

  -- a node is the one that was settled, or was there
  each : (j : Key) (n : Node T R) → new.nodes j ≡ Some n
      → ((j ≡ k) × (n ≡ is)) ⊎ ((j ≢ k) × (old.nodes j ≡ Some n))
  each j n there = ⊎_elim
      (λ here. inl (here, same_Some n is (sym there ∙ (ap new.nodes here ∙ put.here))))
      (λ other. inr (other, sym (put.others j other) ∙ there))
      (key_cases j k)

  -- of another node the same is known as before
  other_known : (j : Key) (n : Node T R) → j ≢ k → old.nodes j ≡ Some n → knows new.known j ≡ knows old.known j
  other_known j n other there = ⊎_elim
      (λ slot. absurd (other (apart j (λ none. none-some n (sym none ∙ there)) slot)))
      (λ slot. ap (λ o. holds o j.id.generation) (learned.others j.id.slot slot))
      (cases_eq j.id.slot k.id.slot)

  asked_stands : (since : ℕ) (a : Asked T) → since ≤ now → (since ≡ now → Means G a.key a.value)
      → IsStillValid old.nodes since a → IsStillValid new.nodes since a
  asked_stands since a le mean h n there low = grind (arith, same, means, each)

  stays_known : (j : Key) (w : T) → Shows old j w → Shows new j w
  stays_known j w (n, there, (has, why)) = ⊎_elim
      (λ here. let one = same G (G k) v means w (rw here at (known_means s j w (n, there, (has, why)))) in
      rw here (rw one at shown))
      (λ other. (
        n,
        put.others j other ∙ there,
        (has, ⊎_elim (λ none. inl none) (λ sure. inr (other_known j n other there ∙ sure)) why),
      ))
      (key_cases j k)

  settling : LeavesBook G now old new
  settling = record {
    known = stays_known;
    stand = asked_stands;
    same = λ j. ⊎_elim (λ here. inr (v, rw here shown)) (λ other. inl (put.others j other)) (key_cases j k);
  }

  walks : (j : Key) (n : Node T R) → new.nodes j ≡ Some n → (w : T) → n.value ≡ Some w → IsWalk G now new.nodes j n w
  walks j n there w value = ⊎_elim
      (λ here. let one : v ≡ w = same_Some v w (sym settled.value ∙ (ap (λ m. m.value) (sym here.1) ∙ value)) in record {
        answers = l.answers;
        asked = l.asked ∙ ap vec_items (sym (ap (λ m. m.reads) here.1 ∙ settled.asked_by));
        leads = rw (here.0, ← one) l.leads;
        stand = known_stand new n.checked l.answers (known_left settling l.answers l.known);
        fresh = λ e. all_mean s l.answers l.known;
      })
      (λ other. walk_left settling j n w (s.checked j n other.1) (s.walks j n other.1 w value))
      (each j n there)

  held : (j : Key) (n : Node T R) → new.nodes j ≡ Some n → knows new.known j ≡ true → (w : T) → n.value ≡ Some w
      → IsMemoKnown G new j n w
  held j n there sure w value = ⊎_elim
      (λ here. let one : v ≡ w = same_Some v w (sym settled.value ∙ (ap (λ m. m.value) (sym here.1) ∙ value)) in record {
        answers = l.answers;
        asked = l.asked ∙ ap vec_items (sym (ap (λ m. m.reads) here.1 ∙ settled.asked_by));
        leads = rw (here.0, ← one) l.leads;
        mean = all_mean s l.answers l.known;
        known = known_left settling l.answers l.known;
      })
      (λ other. held_left settling j n w
      (s.held j n other.1 (sym (other_known j n other.0 other.1) ∙ sure) w value))
      (each j n there)

  linked : (j : Key) (n : Node T R) → new.nodes j ≡ Some n → Owns new.web j → (a : Key) → Contains (vec_items n.reads) a
      → IsSlotLinked new.web j.id.slot a.id.slot
  linked j n there owns a in_it = ⊎_elim
      (λ here. subst (λ x. IsSlotLinked new.web x a.id.slot) (sym (ap (λ x. x.id.slot) here.0))
      (links.linked a (subst (λ xs. Contains xs a) (ap (λ m. vec_items m.reads) here.1 ∙ ap vec_items settled.asked_by) in_it)))
      (λ other. ⊎_elim
      (λ slot. absurd (other.0 (apart j (λ none. none-some n (sym none ∙ other.1)) slot)))
      (λ slot. links.links j.id.slot a.id.slot slot (s.links.linked j n other.1
      (sym (ap (λ o. o.generation) (links.owners j.id.slot slot)) ∙ owns) a in_it))
      (cases_eq j.id.slot k.id.slot))
      (each j n there)

  exact : (j : Key) (n : Node T R) → new.nodes j ≡ Some n → n.rule ≢ None → n.value ≢ None → Owns new.web j
      → (r : ℕ) → IsSlotLinked new.web j.id.slot r → (a : Key) × Contains (vec_items n.reads) a × (a.id.slot ≡ r)
  exact j n there rule value owns r link = ⊎_elim
      (λ here. let it = links.exact s.links.numbered r (subst (λ x. IsSlotLinked new.web x.id.slot r) here.0 link) in (
        it.0,
        subst (λ xs. Contains xs it.0) (sym (ap (λ m. vec_items m.reads) here.1 ∙ ap vec_items settled.asked_by)) it.1,
        it.2,
      ))
      (λ other. ⊎_elim
      (λ slot. absurd (other.0 (apart j (λ none. none-some n (sym none ∙ other.1)) slot)))
      (λ slot. s.links.exact j n other.1 rule value
      (sym (ap (λ o. o.generation) (links.owners j.id.slot slot)) ∙ owns) r
      (links.only s.links.numbered j.id.slot r slot link))
      (cases_eq j.id.slot k.id.slot))
      (each j n there)

  whole : (j : Key) (n : Node T R) (g : ℕ) → new.nodes j ≡ Some n → new.known j.id.slot ≡ Some g
      → (j.id.generation ≡ g) × (n.rule ≢ None) × (n.value ≢ None)
  whole j n g there is = ⊎_elim
      (λ here. (
        same_Some j.id.generation g (ap (λ x. Some x.id.generation) here.0
            ∙ (sym learned.here ∙ (ap (λ x. new.known x.id.slot) (sym here.0) ∙ is))),
        (λ none. none-some l.rule (sym (sym (ap (λ m. m.rule) here.1) ∙ none) ∙ (settled.rule ∙ l.has))),
        (λ none. none-some v (sym (sym (ap (λ m. m.value) here.1) ∙ none) ∙ settled.value)),
      ))
      (λ other. ⊎_elim
      (λ slot. absurd (other.0 (apart j (λ none. none-some n (sym none ∙ other.1)) slot)))
      (λ slot. s.links.whole j n g other.1 (sym (learned.others j.id.slot slot) ∙ is))
      (cases_eq j.id.slot k.id.slot))
      (each j n there)

  owned : (r g : ℕ) → new.known r ≡ Some g → (owner_at (vec_items new.web.owners) r).generation ≡ Some g
  owned r g known = ⊎_elim
      (λ slot. let one = same_Some g k.id.generation (sym known ∙ (ap new.known slot ∙ learned.here)) in
      ap (λ x. (owner_at (vec_items new.web.owners) x).generation) slot ∙ (links.owned ∙ ap Some (sym one)))
      (λ other. ap (λ o. o.generation) (links.owners r other)
      ∙ s.links.owned r g (sym (learned.others r other) ∙ known))
      (cases_eq r k.id.slot)

  bounded : (j : Key) (n : Node T R) → new.nodes j ≡ Some n → (n.checked ≤ now) × (n.changed ≤ now)
  bounded j n there = ⊎_elim
      (λ here. let low = s.changed k was at in (
        omega (arith, ap (λ m. m.checked) here.1 ∙ settled.checked),
        ⊎_elim
            (λ late. omega (arith, ap (λ m. m.changed) here.1 ∙ late))
            (λ early. omega (arith, ap (λ m. m.changed) here.1 ∙ early.0, low))
            settled.changed,
      ))
      (λ other. (s.checked j n other.1, s.changed j n other.1))
      (each j n there)

  plans : (j : Key) → graph_of plan new.nodes j ≡ G j
  plans j = grind (arith, same, key_cases, plan_here, means)

  settle : IsSound plan G now new
  settle = record {
    same = plans;
    walks = walks;
    held = held;
    checked = λ j n there. (bounded j n there).0;
    changed = λ j n there. (bounded j n there).1;
    links = record {
      linked = linked;
      exact = exact;
      owned = owned;
      whole = whole;
      numbered = links.numbered s.links.numbered;
    };
  }

  pub found : (step : Step) → (((v : T) × Shows new k v) → Stepped G now new k step)
      → IsAdvanced plan G now old k step new
  found step so = record { sound = settle; leaves = settling; stepped = so (v, shown) }

-- ==== a chain grows and shrinks at its end, and closes to a cycle

module _ {T : Type 0} (G : Graph T) where
  chain_more : (start : Key) (path : List Frame) (top : Frame) (next : Key) → Chain G start path top.key
      → Needs G top.key next → Chain G start (path ++ top ∷ []) next
  chain_more start [] top next c n = (c, (next, n, refl))
  chain_more start (p ∷ rest) top next (e, (k, m, c)) n = (e, (k, m, chain_more k rest top next c n))

  chain_less : (start : Key) (path : List Frame) (below : Frame) (top : Key)
      → Chain G start (path ++ below ∷ []) top → Chain G start path below.key
  chain_less start [] below top (e, c) = e
  chain_less start (p ∷ rest) below top (e, (k, m, c)) = (e, (k, m, chain_less k rest below top c))

  -- the first comes to whatever the last comes to
  chain_reaches : (start : Key) (path : List Frame) (top goal : Key) → Chain G start path top → Reaches G top goal
      → Reaches G start goal
  chain_reaches start [] top goal c r = rw c r
  chain_reaches start (p ∷ rest) top goal (e, (k, m, c)) r =
      rw e (comes_by p.key k goal m (chain_reaches k rest top goal c r))

  -- a node reaches another by one step or more
  abbrev Leads : Key → Key → Type 0
  Leads goal j = (k : Key) × ((path : List Frame) × (Needs G j k × Chain G k path goal))

  -- each node of a chain reaches its end
  leads_member : (goal start : Key) (path : List Frame) → Chain G start path goal → (i : ℕ) (f : Frame)
      → slice_get path i ≡ Some f → Leads goal f.key
  leads_member goal start [] c i f is = absurd (none-some f is)
  leads_member goal start (p ∷ rest) (e, (k, m, c)) zero f is = rw (← same_Some p f is) (k, (rest, (m, c)))
  leads_member goal start (p ∷ rest) (e, (k, m, c)) (suc i) f is = leads_member goal k rest c i f is

  cyclic : (goal : Key) → Leads goal goal → IsCyclic G (Leads goal)
  cyclic goal round j (k, ([], (need, is))) = (k, rw is round, need)
  cyclic goal round j (k, (p ∷ rest, (need, (e, (q, m, c))))) = (k, (q, (rest, (rw e m, c))), need)

-- ==== a list that got a value at a slot, or had no room for it

pub put_only : {X : Type 0} (old new : List (Option X)) (slot : ℕ) (value : X) (done : Bool)
    → (done ≡ true → stamped_at new slot ≡ Some value) → ((s : ℕ) → s ≢ slot → stamped_at new s ≡ stamped_at old s)
    → (done ≡ false → (s : ℕ) → stamped_at new s ≡ stamped_at old s)
    → (s : ℕ) (x : X) → stamped_at new s ≡ Some x → (stamped_at old s ≡ Some x) ⊎ (x ≡ value)
put_only old new slot value true put others failed s x is = ⊎_elim
    (λ here. inr (sym (same_Some value x (sym (put refl) ∙ (ap (stamped_at new) (sym here) ∙ is)))))
    (λ other. inl (sym (others s other) ∙ is))
    (cases_eq s slot)
put_only old new slot value false put others failed s x is = inl (sym (failed refl s) ∙ is)

-- ==== a fault of a chain's end is one of each of its nodes

module _ {T : Type 0} (G : Graph T) (kind : Key → Kind) where
  needs_blames : (j k : Key) (f : Fault) → Needs G j k → Blames G kind k f → Blames G kind j f
  needs_blames j k (fault.Gone l) needs h = (needs_mute G j k needs h.0, comes_by j k l needs h.1, h.2)
  needs_blames j k (fault.Cycle l) needs h = (needs_mute G j k needs h.0, comes_by j k l needs h.1, h.2)
  needs_blames j k (fault.NoValue l) needs h = (needs_mute G j k needs h.0, comes_by j k l needs h.1, h.2)
  needs_blames j k (fault.NoSource l) needs h = absurd h
  needs_blames j k (fault.Store e) needs h = h

  first_blames : (start : Key) (path : List Frame) (top : Key) (f : Fault) → Chain G start path top
      → Blames G kind top f → Blames G kind start f
  first_blames start [] top f c h = rw c h
  first_blames start (p ∷ rest) top f (e, (k, m, c)) h =
      rw e (needs_blames p.key k f m (first_blames k rest top f c h))

  each_blames : (start : Key) (path : List Frame) (top : Key) (f : Fault) → Chain G start path top
      → Blames G kind top f → (i : ℕ) (q : Frame) → slice_get path i ≡ Some q → Blames G kind q.key f
  each_blames start [] top f c h i q is = absurd (none-some q is)
  each_blames start (p ∷ rest) top f (e, (k, m, c)) h zero q is =
      rw (← same_Some p q is) (needs_blames p.key k f m (first_blames k rest top f c h))
  each_blames start (p ∷ rest) top f (e, (k, m, c)) h (suc i) q is = each_blames k rest top f c h i q is

  chain_blames : (start : Key) (path : List Frame) (top : Key) (f : Fault) → Chain G start path top
      → Blames G kind top f → AreBlamed G kind start path top f
  chain_blames start path top f c h = record {
    first = first_blames start path top f c h;
    others = λ k (i, q, is, same). subst (λ x. Blames G kind x f) same (each_blames start path top f c h i q is);
    last = h;
  }

  -- a fault that is true and no shortage is one to blame, and the other way round
  pub true_blames : (k : Key) (f : Fault) → IsTrueOf G kind k f → Blames G kind k f
  true_blames k (fault.Gone l) h = h
  true_blames k (fault.Cycle l) h = h
  true_blames k (fault.NoValue l) h = h
  true_blames k (fault.NoSource l) h = absurd h
  true_blames k (fault.Store e) h = absurd h

  pub true_mute : (k : Key) (f : Fault) → IsTrueOf G kind k f → IsMute G k
  true_mute k (fault.Gone l) h = h.0
  true_mute k (fault.Cycle l) h = h.0
  true_mute k (fault.NoValue l) h = h.0
  true_mute k (fault.NoSource l) h = absurd h
  true_mute k (fault.Store e) h = absurd h

  blames_true : (k : Key) (f : Fault) → IsNoShortage f → Blames G kind k f → IsTrueOf G kind k f
  blames_true k (fault.Gone l) real h = h
  blames_true k (fault.Cycle l) real h = h
  blames_true k (fault.NoValue l) real h = h
  blames_true k (fault.NoSource l) real h = h
  blames_true k (fault.Store e) real h = absurd real

  -- where a fault is kept of nodes that it is true of, each kept fault is true
  pub kept_true : (old new : List (Option Blame)) (start : Key) (path : List Frame) (top : Key) (f : Fault)
      → AreTrue G kind old → AreBlamed G kind start path top f
      → ((s : ℕ) (b : Blame) → stamped_at new s ≡ Some b → (stamped_at old s ≡ Some b) ⊎ IsAtFault path top f b)
      → AreTrue G kind new
  kept_true old new start path top f were are only s b is = ⊎_elim
      (λ was. were s b was)
      (λ at. subst (IsTrueOf G kind b.key) (sym at.0) (blames_true b.key f at.1 (⊎_elim
      (λ last. subst (λ x. Blames G kind x f) (sym last) are.last)
      (λ on. are.others b.key on)
      at.2)))
      (only s b is)

  pub none_true : (faults : List (Option Blame)) → ((s : ℕ) → stamped_at faults s ≡ None) → AreTrue G kind faults
  none_true faults none s b is = absurd (none-some b (sym (none s) ∙ is))

module _ {T R : Type 0} (G : Graph T) (now : ℕ) (b : Book T R) where
  all_more : (path : List Frame) (f : Frame) → AllGoOn G now b path
      → GoesOn G now b f.key f.place → AllGoOn G now b (path ++ f ∷ [])
  all_more [] f all h = (h, tt)
  all_more (p ∷ rest) f (g, all) h = (g, all_more rest f all h)

  all_less : (path : List Frame) (f : Frame) → AllGoOn G now b (path ++ f ∷ [])
      → AllGoOn G now b path × GoesOn G now b f.key f.place
  all_less [] f (h, all) = (tt, h)
  all_less (p ∷ rest) f (g, all) = let got = all_less rest f all in ((g, got.0), got.1)

module _ {T R : Type 0} {plan : R → Plan T} {G : Graph T} {now : ℕ} {old new : Book T R}
    (s : IsSound plan G now old) (l : LeavesBook G now old new) where
  -- what a step leaves serves to go on
  goes_left : (k : Key) (place : Option ℕ) → GoesOn G now old k place → GoesOn G now new k place
  unfolding walk_left
  goes_left k None h = tt
  goes_left k (Some place) (inl known) = inl (known.0, l.known k known.0 known.1)
  goes_left k (Some place) (inr far) = ⊎_elim
      (λ same. inr (λ n at v has. let was = sym same ∙ at in let up = far n was v has in
      (walk_left l k n v (s.checked k n was) up.0, known_left l (take place up.0.answers) up.1)))
      (λ known. inl known)
      (l.same k)

  all_left : (path : List Frame) → AllGoOn G now old path → AllGoOn G now new path
  all_left [] all = tt
  all_left (f ∷ rest) (h, all) = (goes_left f.key f.place h, all_left rest all)

module _ {T R : Type 0} {plan : R → Plan T} {G : Graph T} {now : ℕ} {old mid new : Book T R} {k : Key} where
  -- a step to a node that is needed stays one if nothing is lost after it
  pub needs_left : (next : Key) (place : Option ℕ) → IsAdvanced plan G now old k (step.Needs next place) mid
      → IsLeft mid new → IsAdvanced plan G now old k (step.Needs next place) new
  needs_left next place a left =
      let leaves = left_leaves a.sound left in record {
        sound = left_sound a.sound left;
        leaves = record {
          known = λ j v h. leaves.known j v (a.leaves.known j v h);
          stand = λ since b le mean h. leaves.stand since b le mean (a.leaves.stand since b le mean h);
          same = λ j. ⊎_elim
              (λ same. inl (left.nodes j ∙ same))
              (λ known. inr (known.0, leaves.known j known.0 known.1))
              (a.leaves.same j);
        };
        stepped = (a.stepped.0, goes_left a.sound leaves k place a.stepped.1);
      }

module _ {T R : Type 0} {plan : R → Plan T} {G : Graph T} {now : ℕ} {b : Book T R}
    (s : IsSound plan G now b) where
  -- no fault is true of a known node
  pub known_unblamed : (kind : Key → Kind) (k : Key) (f : Fault) → IsTrueOf G kind k f
      → is_some (known_of b k) ≡ true → ⊥
  known_unblamed kind k f h is =
      let got = some_value (known_of b k) is in
      true_mute G kind k f h got.0 (known_means s k got.0 (known_shows (knows b.known k) (b.nodes k) got.0 got.1))

  -- a look may begin anywhere
  pub begins : (k : Key) → GoesOn G now b k (Some 0)
  begins k = inr (λ n at v has. (s.walks k n at v has, tt))

module _ {T R : Type 0} {plan : R → Plan T} {G : Graph T} {now : ℕ} {start : Key} {old new : Book T R}
    {path : List Frame} {top : Frame} {step : Step} (o : IsOnTheWay plan G now old start path top)
    (a : IsAdvanced plan G now old top.key step new) where
  -- ---- a step on the way

  pub way_known : length path ≡ 0 → ((v : T) × Shows new top.key v) → (v : T) × Shows new start v
  way_known none h =
      let is : start ≡ top.key = rw (nil_from_length path none) at o.chain in rw is h

  pub way_back : (rest : List Frame) (below : Frame) → path ≡ rest ++ below ∷ []
      → IsOnTheWay plan G now new start rest below
  way_back rest below is =
      let all = all_less G now new rest below (all_left o.sound a.leaves (rest ++ below ∷ []) (rw is at o.others)) in
      record {
        sound = a.sound;
        chain = chain_less G start rest below top.key (rw is at o.chain);
        others = all.0;
        last = all.1;
      }

  pub way_on : (next : Key) (place : Option ℕ) → Needs G top.key next → GoesOn G now new top.key place
      → IsOnTheWay plan G now new start (path ++ record { key = top.key; place = place } ∷ [])
      (record { key = next; place = Some 0 })
  way_on next place needs goes =
      let here : Frame = record { key = top.key; place = place } in record {
        sound = a.sound;
        chain = chain_more G start path here next o.chain needs;
        others = all_more G now new path here (all_left o.sound a.leaves path o.others) goes;
        last = begins a.sound next;
      }

-- ---- faults on the way

module _ {T R : Type 0} {plan : R → Plan T} {G : Graph T} {now : ℕ} {start : Key} {b : Book T R}
    {path : List Frame} {top : Frame} (o : IsOnTheWay plan G now b start path top) (kind : Key → Kind) where
  pub way_blames : (f : Fault) → Blames G kind top.key f → AreBlamed G kind start path top.key f
  way_blames f h = chain_blames G kind start path top.key f o.chain h

  pub way_blames_on : (next : Key) (place : Option ℕ) (f : Fault) → Needs G top.key next → Blames G kind next f
      → AreBlamed G kind start (path ++ record { key = top.key; place = place } ∷ []) top.key f
  way_blames_on next place f needs h =
      let here : Frame = record { key = top.key; place = place } in
      let all = chain_blames G kind start (path ++ here ∷ []) next f (chain_more G start path here next o.chain needs) h in
      record { first = all.first; others = all.others; last = needs_blames G kind top.key next f needs h }

  pub way_needs : (next : Key) (f : Fault) → Needs G top.key next → IsTrueOf G kind next f
      → AreBlamed G kind start path top.key f
  way_needs next f needs h = way_blames f (needs_blames G kind top.key next f needs (true_blames G kind next f h))

  pub way_round : (next : Key) (place : Option ℕ) → Needs G top.key next
      → IsOn (path ++ record { key = top.key; place = place } ∷ []) next
      → AreBlamed G kind start (path ++ record { key = top.key; place = place } ∷ []) top.key (fault.Cycle next)
  way_round next place needs (i, f, is, same) =
      let here : Frame = record { key = top.key; place = place } in
      let all = path ++ here ∷ [] in
      let chain = chain_more G start path here next o.chain needs in
      let round : Leads G next next = rw same at (leads_member G next start all chain i f is) in
      way_blames_on next place (fault.Cycle next) needs (
        cyclic_mute G (Leads G next) (cyclic G next round) next round,
        arrives next,
        (round.0, round.1.1.0, chain_reaches G round.0 round.1.0 next next round.1.1.1 (arrives next)),
      )

-- ==== what calls leave of a graph that is kept

true_or_false : (b : Bool) → (b ≡ true) ⊎ (b ≡ false)
true_or_false true = inl refl
true_or_false false = inr refl

module _ {T R : Type 0} where
  -- a node that replaces one of its kind changes no key's kind
  pub put_kinds : (old new : NodeTable T R) (k : Key) (n m : Node T R) → old k ≡ Some n
      → kind_by_rule m.rule ≡ kind_by_rule n.rule → IsPut old k m new → kinds_of new ≡ kinds_of old
  put_kinds old new k n m is same put = grind (arith, key_cases)

  -- from one graph to another a key's node was replaced, in a later revision
  abbrev pub IsRenewed : GraphState T R → Key → Option R → Option T → GraphState T R → Type 0
  IsRenewed old k rule value new = (n : Node T R) × IsResetTo rule value new.revision n
      × (old.revision < new.revision) × IsPut (nodes_in old.state) k n (nodes_in new.state)

  -- a graph and its links are as they were
  abbrev pub IsSameAs : GraphState T R → Web → GraphState T R → Web → Type 0
  IsSameAs old web new after = (new.state ≡ old.state) × (new.revision ≡ old.revision) × (new.known ≡ old.known)
      × (after ≡ web)

  -- what is shown of a node is shown in another book where its slot and node are the same
  same_shows : (old new : Book T R) (k : Key) (v : T) → new.known k.id.slot ≡ old.known k.id.slot
      → new.nodes k ≡ old.nodes k → Shows old k v → Shows new k v
  same_shows old new k v known node shows = still_shows old new k v (known, node) shows

  -- effects are right still if the slots whose nodes may mean something else were doubted
  pub heard_still : (old new : Book T R) (effects : List (Option (Effect T))) (before after : DirtySlots)
      → AreHeard old effects before → AreDirtied old before new after → AreHeard new effects after
  heard_still old new effects before after h dirtied = record {
    placed = h.placed;
    heard = λ s e at right.
        let was = h.heard s e at (dirtied.doubted.fewer s right) in
        let same = dirtied.same s right in
        let place = h.placed s e at in (
          was.0,
          was.1,
          same_shows old new e.key was.0 (ap new.known place ∙ (same.0 ∙ ap old.known (sym place))) (same.1 e.key place) was.2,
        );
    flagged = λ s c e at wrong in_block. ⊎_elim
        (λ was. dirtied.doubted.flagged s c was wrong in_block)
        (λ was. dirtied.doubted.kept c (h.flagged s c e at was in_block))
        (true_or_false (clean_at (vec_items before.clean) s));
  }

  -- what was known is shown still
  pub still_shown : (old new : Book T R) → Lasts old new
      → (k : Key) (v : T) → known_of old k ≡ Some v → known_of new k ≡ Some v
  still_shown old new lasts k v is =
      shown_known new k v (lasts k v (known_shows (knows old.known k) (old.nodes k) v is))

  -- ---- a fresh graph

  pub fresh_stops : (S : State (Node T R)) → IsFresh S → (k : Key) → nodes_in S k ≡ None
  fresh_stops S fresh k = rw fresh (fresh_sees S.number S.start S.next (key_pointer k))

  pub fresh_kept : (plan : R → Plan T) (S : State (Node T R)) (known : List Mark) (dirty : DirtySlots) (web : Web)
      (effects : List (Option (Effect T))) → IsFresh S → effects ≡ []
      → known ≡ [] → vec_items web.owners ≡ [] → vec_items web.readers ≡ [] → web.number ≡ 1
      → IsGraphKept plan (record { state = S; revision = 1; known = known; effects = effects }) dirty web
  fresh_kept plan S known dirty web effects fresh none empty owners readers number = record {
    heard = record {
      placed = λ s e at. absurd (none-some e (ap (λ es. effect_at es s) (sym none) ∙ at));
      heard = λ s e at. absurd (none-some e (ap (λ es. effect_at es s) (sym none) ∙ at));
      flagged = λ s c e at. absurd (none-some e (ap (λ es. effect_at es s) (sym none) ∙ at));
    };
    simple = rw fresh (fresh_simple S.number S.start S.next);
    sound = record {
      same = λ k. refl;
      walks = λ k n at. absurd (none-some n (sym (fresh_stops S fresh k) ∙ at));
      held = λ k n at. absurd (none-some n (sym (fresh_stops S fresh k) ∙ at));
      checked = λ k n at. absurd (none-some n (sym (fresh_stops S fresh k) ∙ at));
      changed = λ k n at. absurd (none-some n (sym (fresh_stops S fresh k) ∙ at));
      links = record {
        linked = λ k n at. absurd (none-some n (sym (fresh_stops S fresh k) ∙ at));
        exact = λ k n at. absurd (none-some n (sym (fresh_stops S fresh k) ∙ at));
        owned = λ r g is. absurd (none-some g (ap (λ xs. known_at xs r) (sym empty) ∙ is));
        whole = λ k n g at. absurd (none-some n (sym (fresh_stops S fresh k) ∙ at));
        numbered = record {
          owners = λ r. let owner = ap (λ os. (owner_at os r).number) owners in omega (arith, owner, number);
          edges = λ r e h. let nothing : Contains [] e = subst (λ rs. Contains (edges_by (slice_get rs r)) e) readers h in
              absurd (omega (arith, nothing.1));
        };
      };
    };
  }

module _ {T R : Type 0} {plan : R → Plan T} where
  -- ---- a graph of which no fault is kept

  pub whole_cleared : (g : GraphState T R) (dirty : DirtySlots) (web : Web) (faults : List (Option Blame))
      → IsGraphKept plan g dirty web → ((s : ℕ) → stamped_at faults s ≡ None) → IsGraphWhole plan g dirty web faults
  whole_cleared g dirty web faults kept none =
      record { kept = kept; blamed = none_true (plans_in plan g) (kind_in g) faults none }

  -- ---- a graph that is as it was

  pub kept_same : (old new : GraphState T R) (dirty dirtied : DirtySlots) (web after : Web) → IsGraphKept plan old dirty web
      → new.effects ≡ old.effects → dirtied ≡ dirty → IsSameAs old web new after
      → IsGraphKept plan new dirtied after
  kept_same old new dirty dirtied web after kept effects one_dirty (state, revision, known, links) =
      let one : new ≡ old = λ i. record { state = state i; revision = revision i; known = known i; effects = effects i } in
      rw (one, one_dirty, links) kept

  -- ---- a node that was made, or not

  pub kept_insert : {E : Type 0} (r : Result Key E) (old new : GraphState T R) (dirty dirtied : DirtySlots) (web after : Web)
      (n : Node T R) → IsGraphKept plan old dirty web → new.effects ≡ old.effects
      → OnOk r (AreDirtied (book_by old.state old.known web) dirty (book_by new.state new.known after) dirtied)
      → OnErr r (dirtied ≡ dirty)
      → IsSimple new.state → new.revision ≡ old.revision
      → IfOk r (λ k. (nodes_in old.state k ≡ None) × IsPut (nodes_in old.state) k n (nodes_in new.state))
      → OnOk r (AreForgotten (book_by old.state old.known web) (book_by new.state new.known after))
      → OnErr r (new.state ≡ old.state) → OnErr r ((new.known ≡ old.known) × (after ≡ web))
      → IsReset old.revision n → IsGraphKept plan new dirtied after
  kept_insert (Ok k) old new dirty dirtied web after n kept effects doubts one simple same (none, put) f refused links reset = record {
    simple = simple;
    heard = rw effects (heard_still _ _ old.effects dirty dirtied kept.heard doubts);
    sound = rw same (made_sound (book_by new.state new.known after) kept.sound f k n put none reset);
  }
  kept_insert (Err e) old new dirty dirtied web after n kept effects doubts one simple same put f refused links reset =
      kept_same old new dirty dirtied web after kept effects one (refused, same, links.0, links.1)

  -- ---- a node that was brought up to date

  module _ (old new : GraphState T R) (after : Web) (simple : IsSimple new.state) (same : new.revision ≡ old.revision)
      (sound : IsSound plan (plans_in plan old) old.revision (book_by new.state new.known after)) where
    -- a book that is sound for a graph is sound for its own, which has the same plans
    pub same_plans : plans_in plan new ≡ plans_in plan old
    same_plans = λ i k. sound.same k i

    pub kept_refreshed : (dirty : DirtySlots) (web : Web) → IsGraphKept plan old dirty web → new.effects ≡ old.effects
        → Lasts (book_by old.state old.known web) (book_by new.state new.known after) → IsGraphKept plan new dirty after
    kept_refreshed dirty web kept effects lasts = record {
      simple = simple;
      sound = rw (same_plans, same) sound;
      heard = rw effects (record {
        placed = kept.heard.placed;
        heard = λ s e at right. let was = kept.heard.heard s e at right in (was.0, was.1, lasts e.key was.0 was.2);
        flagged = kept.heard.flagged;
      });
    }

    pub whole_refreshed : (dirty : DirtySlots) (web : Web) (before faults : List (Option Blame))
        → IsGraphWhole plan old dirty web before → new.effects ≡ old.effects
        → Lasts (book_by old.state old.known web) (book_by new.state new.known after)
        → kinds_of (nodes_in new.state) ≡ kind_in old → AreTrue (plans_in plan old) (kind_in old) faults
        → IsGraphWhole plan new dirty after faults
    whole_refreshed dirty web before faults whole effects lasts kinds blamed = record {
      kept = kept_refreshed dirty web whole.kept effects lasts;
      blamed = subst (λ kind. AreTrue (plans_in plan new) kind faults) (sym kinds)
          (subst (λ G. AreTrue G (kind_in old) faults) (sym same_plans) blamed);
    }

    pub refreshed_shown : (k : Key) (r : Result (Unit {0}) Fault)
        → Refreshed (plans_in plan old) (book_by new.state new.known after) k r
        → OnOk r ((v : T) × (shown_in new k ≡ Some v) × Means (plans_in plan old) k v)
    refreshed_shown k (Ok u) (v, shows) =
        (v, shown_known (book_by new.state new.known after) k v shows, known_means sound k v shows)
    refreshed_shown k (Err f) h = tt

    pub refreshed_blames : kinds_of (nodes_in new.state) ≡ kind_in old → (k : Key)
        (r : Result (Unit {0}) Fault) → Refreshed (plans_in plan old) (book_by new.state new.known after) k r
        → IfErr r (Blames (plans_in plan old) (kind_in old) k)
    refreshed_blames is k r h = grind arith

  pub peek_means : (now : GraphState T R) (dirty : DirtySlots) (web : Web) → IsGraphKept plan now dirty web → (k : Key) (o : Option (Bor T))
      → option_copied o ≡ shown_in now k → IfSome o (λ v. Means (plans_in plan now) k v.now)
  peek_means now dirty web kept k None is = tt
  peek_means now dirty web kept k (Some v) is =
      known_means kept.sound k v.now (known_shows (knows (known_at now.known) k) (nodes_in now.state k) v.now (sym is))

  -- ---- a node that was set, or not

  pub kept_reset : {E : Type 0} (r : Result (Unit {0}) E) (old new : GraphState T R) (dirty dirtied : DirtySlots)
      (web after : Web) (k : Key) (rule : Option R)
      (value : Option T) → OnOk r (IsRenewed old k rule value new) → IsGraphKept plan old dirty web
      → new.effects ≡ old.effects
      → OnOk r (AreDirtied (book_by old.state old.known web) dirty (book_by new.state new.known after) dirtied)
      → OnErr r (dirtied ≡ dirty) → IsSimple new.state
      → OnOk r (AreForgotten (book_by old.state old.known web) (book_by new.state new.known after))
      → OnErr r (IsSameAs old web new after)
      → ((v : T) → value ≡ Some v → rule ≡ None) → IsGraphKept plan new dirtied after
  kept_reset (Ok u) old new dirty dirtied web after k rule value (n, reset, later, put) kept effects doubts one simple f refused shows =
      let its : IsReset new.revision n = record {
        asked = reset.asked;
        plain = λ v is. reset.rule ∙ shows v (sym reset.value ∙ is);
        changed = reset.changed;
        checked = reset.checked;
      } in record {
        simple = simple;
        heard = rw effects (heard_still _ _ old.effects dirty dirtied kept.heard doubts);
        sound = set_sound (book_by new.state new.known after) kept.sound f k n put new.revision later its;
      }
  kept_reset (Err e) old new dirty dirtied web after k rule value put kept effects doubts one simple f refused shows =
      kept_same old new dirty dirtied web after kept effects one refused

  -- ---- nodes that were removed, or not

  pub kept_lost : {E : Type 0} (r : Result (Unit {0}) E) (old new : GraphState T R) (dirty dirtied : DirtySlots)
      (web after : Web) (gone : List Key)
      → OnOk r (HasLostKeys (nodes_in old.state) gone (nodes_in new.state))
      → OnErr r (IsSameAs old web new after)
      → OnOk r (AreForgotten (book_by old.state old.known web) (book_by new.state new.known after))
      → IsGraphKept plan old dirty web → new.effects ≡ old.effects
      → OnOk r (AreDirtied (book_by old.state old.known web) dirty (book_by new.state new.known after) dirtied)
      → OnErr r (dirtied ≡ dirty)
      → IsSimple new.state → OnOk r (old.revision < new.revision) → IsGraphKept plan new dirtied after
  kept_lost (Ok u) old new dirty dirtied web after gone lost refused f kept effects doubts one simple later = record {
    simple = simple;
    heard = rw effects (heard_still _ _ old.effects dirty dirtied kept.heard doubts);
    sound = ended_sound (book_by new.state new.known after) kept.sound f new.revision later lost.left;
  }
  kept_lost (Err e) old new dirty dirtied web after gone lost refused f kept effects doubts one simple later =
      kept_same old new dirty dirtied web after kept effects one refused

-- ==== what isn't reached by what was changed is shown as it was

-- what marking a slot leaves is spared
pub spared_by : {T R : Type 0} (old new : Book T R) (k : Key) → old.nodes k ≢ None
    → ((s : ℕ) → (new.known s ≡ old.known s) ⊎ Leans old.web old.known s k.id.slot) → AreSpared old (k ∷ []) new
spared_by old new k live marks s = ⊎_elim (λ same. inl same) (λ leans. inr (k, inl refl, live, leans)) (marks s)

-- and still if more is marked after that
module _ {T R : Type 0} (old mid new : Book T R) (keys : List Key) (i : ℕ) (d : Key) (lt : i < length keys)
    (a : AreSpared old (take i keys) mid) (f : AreForgotten old mid) (lost : HasLostKeys old.nodes (take i keys) mid.nodes)
    (b : AreSpared mid (get_or keys i d ∷ []) new) where
  leans_before : (r t : ℕ) → Leans mid.web mid.known r t → Leans old.web old.known r t
  leans_before _ _ (leans_itself r) = leans_itself r
  leans_before _ _ (leans_by r q t g is link rest) =
      leans_by r q t g (f.fewer r g is) (subst (λ w. IsSlotLinked w r q) f.web link) (leans_before q t rest)

  live_before : (k : Key) → mid.nodes k ≢ None → old.nodes k ≢ None
  live_before k live = ⊎_elim (λ none. absurd (live none)) (λ same none. live (same ∙ none)) (lost.left k)

  among_more : (k : Key) → IsKeyAmong k (take i keys) ⊎ (get_or keys i d ≡ k) → IsKeyAmong k (take (i + 1) keys)
  among_more k h = rw (take_more keys i d lt) (among_first (take i keys) (get_or keys i d) k h)

  pub spared_more : AreSpared old (take (i + 1) keys) new
  spared_more s = ⊎_elim
      (λ same. ⊎_elim
      (λ was. inl (same ∙ was))
      (λ leans. inr (leans.0, among_more leans.0 (inl leans.1), leans.2, leans.3))
      (a s))
      (λ leans. inr (
        leans.0,
        among_more leans.0 (⊎_elim (λ is. inr is) (λ nothing. absurd nothing) leans.1),
        live_before leans.0 leans.2,
        leans_before s leans.0.id.slot leans.3,
      ))
      (b s)

module _ {T R : Type 0} {plan : R → Plan T} {G : Graph T} {now : ℕ} {b : Book T R}
    (s : IsSound plan G now b) (one : (k : Key) → b.nodes k ≢ None → IsApart b.nodes k) where
  -- the result of a read of a list
  answer_of : (answers : List (Asked T)) (a : Key) → Contains (list_map (λ x. x.key) answers) a → AreKnown b answers
      → (place : ℕ) × (x : Asked T) × (slice_get answers place ≡ Some x) × (x.key ≡ a) × Shows b x.key x.value
  answer_of [] a (k, lt, is) known = absurd (omega (arith, lt))
  answer_of (x ∷ rest) a (zero, lt, is) known = (0, x, refl, is, known.0)
  answer_of (x ∷ rest) a (suc k, lt, is) known =
      let found_there = answer_of rest a (k, omega (arith, lt), is) known.1 in
      (suc found_there.0, found_there.1, found_there.2, found_there.3, found_there.4)

  all_mean_take : (answers : List (Asked T)) (place : ℕ) → AllMean G answers → AllMean G (take place answers)
  all_mean_take [] zero all = tt
  all_mean_take [] (suc place) all = tt
  all_mean_take (a ∷ rest) zero all = tt
  all_mean_take (a ∷ rest) (suc place) (d, all) = (d, all_mean_take rest place all)

  -- a node whose slot leans on that of another comes to it
  pub leans_reaches : (r t : ℕ) → Leans b.web b.known r t → (k j : Key) → b.nodes k ≢ None → b.nodes j ≢ None
      → k.id.slot ≡ r → j.id.slot ≡ t → Reaches G k j
  leans_reaches _ _ (leans_itself r) k j live lives at to = rw (one j lives k live (at ∙ sym to)) (arrives j)
  leans_reaches _ _ (leans_by r q t g is link rest) k j live lives at to =
      let n = some_in (b.nodes k) live in
      let known : b.known k.id.slot ≡ Some g = ap b.known at ∙ is in
      let whole = s.links.whole k n.0 g n.1 known in
      let v = some_in n.0.value whole.2 in
      let here : b.known k.id.slot ≡ Some k.id.generation = known ∙ ap Some (sym whole.0) in
      let h = s.held k n.0 n.1 (is_knows b.known k here) v.0 v.1 in
      let owns = s.links.owned k.id.slot k.id.generation here in
      let read = s.links.exact k n.0 n.1 whole.1 whole.2 owns q (subst (λ x. IsSlotLinked b.web x q) (sym at) link) in
      let answer = answer_of h.answers read.0 (subst (λ xs. Contains xs read.0) (sym h.asked) read.1) h.known in
      let asks = asked_to (G k) h.answers answer.0 answer.1 (Give v.0) h.leads answer.2 in
      let needs : Needs G k answer.1.key = (take answer.0 h.answers, asks.0, all_mean_take h.answers answer.0 h.mean, asks.1) in
      let there = answer.4 in
      comes_by k answer.1.key j needs (leans_reaches q t rest answer.1.key j
      (λ none. none-some there.0 (sym none ∙ there.1)) lives (ap (λ x. x.id.slot) answer.3 ∙ read.2) to)

module _ {T R : Type 0} {plan : R → Plan T} (old new : GraphState T R) (dirty : DirtySlots) (web after : Web) (keys : List Key)
    (kept : IsGraphKept plan old dirty web) (store : IsSoundStore old.state)
    (spared : AreSpared (book_by old.state old.known web) keys (book_by new.state new.known after))
    (others : (k : Key) → (IsKeyAmong k keys → ⊥) → nodes_in new.state k ≡ nodes_in old.state k) where
  one_slot : (k : Key) → nodes_in old.state k ≢ None → IsApart (nodes_in old.state) k
  one_slot k live = slots_apart old.state store kept.simple k live

  -- of a node that comes to none of these the same is known
  known_same : (k : Key) → ((j : Key) → IsKeyAmong j keys → Reaches (plans_in plan old) k j → ⊥)
      → nodes_in old.state k ≢ None → known_at new.known k.id.slot ≡ known_at old.known k.id.slot
  known_same k apart live = ⊎_elim
      (λ same. same)
      (λ leans. absurd (apart leans.0 leans.1 (leans_reaches kept.sound one_slot k.id.slot leans.0.id.slot leans.3 k leans.0
      live leans.2 refl refl)))
      (spared k.id.slot)

  pub shown_same : (k : Key) → ((j : Key) → IsKeyAmong j keys → Reaches (plans_in plan old) k j → ⊥)
      → shown_in new k ≡ shown_in old k
  shown_same k apart = by_node (nodes_in old.state k) refl where
    by_node : (o : Option (Node T R)) → nodes_in old.state k ≡ o → shown_in new k ≡ shown_in old k
    by_node None is = let same = others k (λ among. apart k among (arrives k)) in
        rw (same, is) refl
    by_node (Some n) is =
        let same = others k (λ among. apart k among (arrives k)) in
        let known = known_same k apart (λ none. none-some n (sym none ∙ is)) in
        rw (same, known) refl

module _ {T R : Type 0} {plan : R → Plan T} where
  pub reset_unaffected : {E : Type 0} (r : Result (Unit {0}) E) (old new : GraphState T R) (dirty : DirtySlots) (web after : Web)
      (key : Key) (rule : Option R) (value : Option T) → IsGraphKept plan old dirty web → IsSoundStore old.state
      → OnOk r (IsRenewed old key rule value new)
      → OnOk r (AreSpared (book_by old.state old.known web) (key ∷ []) (book_by new.state new.known after))
      → OnErr r (IsSameAs old web new after)
      → (k : Key) → (Reaches (plans_in plan old) k key → ⊥) → shown_in new k ≡ shown_in old k
  reset_unaffected (Ok u) old new dirty web after key rule value kept store (n, reset, later, put) spared same k apart =
      shown_same old new dirty web after (key ∷ []) kept store spared
      (λ j other. put.others j (λ is. other (inl (sym is)))) k
      (λ j among reaches. ⊎_elim (λ is. apart (rw is reaches)) (λ nothing. nothing) among)
  reset_unaffected (Err e) old new dirty web after key rule value kept store put spared same k apart =
      rw (same.0, same.2) refl

  pub lost_unaffected : {E : Type 0} (r : Result (Unit {0}) E) (old new : GraphState T R) (dirty : DirtySlots) (web after : Web)
      (keys : List Key) → IsGraphKept plan old dirty web → IsSoundStore old.state
      → OnOk r (HasLostKeys (nodes_in old.state) keys (nodes_in new.state))
      → OnOk r (AreSpared (book_by old.state old.known web) keys (book_by new.state new.known after))
      → OnErr r (IsSameAs old web new after)
      → (k : Key) → ((j : Key) → IsKeyAmong j keys → Reaches (plans_in plan old) k j → ⊥) → shown_in new k ≡ shown_in old k
  lost_unaffected (Ok u) old new dirty web after keys kept store lost spared same k apart =
      shown_same old new dirty web after keys kept store spared lost.others k apart
  lost_unaffected (Err e) old new dirty web after keys kept store lost spared same k apart = rw (same.0, same.2) refl

-- ==== effects

module _ {T R : Type 0} where
  -- what is clean after a slot was forgotten is as before
  pub dirtied_after : (old new : Book T R) (before after : DirtySlots) (key : Key) → AreDoubted before after
      → ((s : ℕ) → clean_at (vec_items after.clean) s ≡ true → (s ≢ key.id.slot) × (new.known s ≡ old.known s))
      → ((k : Key) → k ≢ key → new.nodes k ≡ old.nodes k) → AreDirtied old before new after
  dirtied_after old new before after key doubted trusted others = record {
    doubted = doubted;
    same = λ s right. let t = trusted s right in
        (t.1, λ k at. others k (λ is. t.0 (sym at ∙ ap (λ x. x.id.slot) is)));
  }

  pub dirtied_more : (old mid new : Book T R) (before between after : DirtySlots) → AreDirtied old before mid between
      → AreDirtied mid between new after → AreDirtied old before new after
  dirtied_more old mid new before between after a b = record {
    doubted = doubted_more before between after a.doubted b.doubted;
    same = λ s right.
        let two = b.same s right in
        let one = a.same s (b.doubted.fewer s right) in
        (two.0 ∙ one.0, λ k at. two.1 k at ∙ one.1 k at);
  }

  pub dirtied_itself : (b : Book T R) (h : DirtySlots) → AreDirtied b h b h
  dirtied_itself b h = record {
    doubted = record {
      fewer = λ s right. right;
      flagged = λ s c was wrong in_block. absurd (true≢false (sym was ∙ wrong));
      kept = λ c flag. flag;
    };
    same = λ s right. (refl, λ k at. refl);
  }

pub in_range : {X : Type 0} (xs : List (Option X)) (s : ℕ) (x : X) → get_or xs s None ≡ Some x → s < length xs
in_range [] s x at = absurd (none-some x at)
in_range (y ∷ xs) zero x at = omega arith
in_range (y ∷ xs) (suc s) x at = let low = in_range xs s x at in omega (arith, low)

set_same : {X : Type 0} (xs : List (Option X)) (s : ℕ) (o : Option X) (x : X) → get_or (set xs s o) s None ≡ Some x → o ≡ Some x
set_same [] s o x at = absurd (none-some x at)
set_same (y ∷ xs) zero o x at = at
set_same (y ∷ xs) (suc s) o x at = set_same xs s o x at

module _ {T R : Type 0} where
  -- an effect was put at a slot, or removed
  pub heard_put : (b : Book T R) (effects : List (Option (Effect T))) (dirty dirtied : DirtySlots) (s : ℕ)
      (o : Option (Effect T)) → AreHeard b effects dirty
      → ((r : ℕ) → r ≢ s → clean_at (vec_items dirtied.clean) r ≡ clean_at (vec_items dirty.clean) r)
      → ((c : ℕ) → flag_at (vec_items dirty.blocks) c ≡ true → flag_at (vec_items dirtied.blocks) c ≡ true)
      → ((e : Effect T) → o ≡ Some e → e.key.id.slot ≡ s)
      → ((e : Effect T) → o ≡ Some e → clean_at (vec_items dirtied.clean) s ≡ true
      → (v : T) × (e.told ≡ Some (Ok v)) × Shows b e.key v)
      → ((e : Effect T) (c : ℕ) → o ≡ Some e → clean_at (vec_items dirtied.clean) s ≡ false → IsIn s c
      → flag_at (vec_items dirtied.blocks) c ≡ true)
      → AreHeard b (set effects s o) dirtied
  heard_put b effects dirty dirtied s o h right flags placed heard flagged = record {
    placed = λ r e at. ⊎_elim
        (λ same. placed e (set_same effects s o e (ap (effect_at (set effects s o)) (sym same) ∙ at)) ∙ sym same)
        (λ other. h.placed r e (sym (get_or-set_other effects s r o None other) ∙ at))
        (cases_eq r s);
    heard = λ r e at is. ⊎_elim
        (λ same. heard e (set_same effects s o e (ap (effect_at (set effects s o)) (sym same) ∙ at))
        (ap (clean_at (vec_items dirtied.clean)) (sym same) ∙ is))
        (λ other. h.heard r e (sym (get_or-set_other effects s r o None other) ∙ at) (sym (right r other) ∙ is))
        (cases_eq r s);
    flagged = λ r c e at is in_block. ⊎_elim
        (λ same. flagged e c (set_same effects s o e (ap (effect_at (set effects s o)) (sym same) ∙ at))
        (ap (clean_at (vec_items dirtied.clean)) (sym same) ∙ is) (subst (λ x. IsIn x c) same in_block))
        (λ other. flags c (h.flagged r c e (sym (get_or-set_other effects s r o None other) ∙ at) (sym (right r other) ∙ is) in_block))
        (cases_eq r s);
  }

  -- effects that are alike slot by slot
  pub heard_alike : (b : Book T R) (effects others : List (Option (Effect T))) (dirty dirtied : DirtySlots)
      → AreHeard b effects dirty
      → ((s : ℕ) → effect_at others s ≡ effect_at effects s)
      → ((s : ℕ) → clean_at (vec_items dirtied.clean) s ≡ clean_at (vec_items dirty.clean) s)
      → ((c : ℕ) → flag_at (vec_items dirtied.blocks) c ≡ flag_at (vec_items dirty.blocks) c)
      → AreHeard b others dirtied
  heard_alike b effects others dirty dirtied h alike right flags = record {
    placed = λ s e at. h.placed s e (sym (alike s) ∙ at);
    heard = λ s e at is. h.heard s e (sym (alike s) ∙ at) (sym (right s) ∙ is);
    flagged = λ s c e at is in_block. flags c ∙ h.flagged s c e (sym (alike s) ∙ at) (sym (right s) ∙ is) in_block;
  }

  kind_lives : (o : Option (Node T R)) (n : Node T R) → o ≡ Some n → kind_by o ≢ NoNode
  kind_lives o n is none = by_rule n.rule (ap kind_by (sym is) ∙ none) where
    by_rule : (r : Option R) → kind_by_rule r ≡ NoNode → ⊥
    by_rule None e = cc
    by_rule (Some r) e = cc

module _ {T R : Type 0} {plan : R → Plan T} (same : T → T → Bool) (g : GraphState T R) (dirty : DirtySlots) (web : Web)
    (kept : IsGraphKept plan g dirty web) (s : ℕ) where
  -- a slot without an effect, or whose last report is right, has nothing to report
  nothing_told : (o : Option (Effect T)) → effect_at g.effects s ≡ o
      → ((e : Effect T) → o ≡ Some e → clean_at (vec_items dirty.clean) s ≡ true)
      → Listens same (plans_in plan g) (kind_in g) o o []
  nothing_told None at right = (refl, refl)
  nothing_told (Some e) at right =
      let was = kept.heard.heard s e at (right e refl) in (
        kind_lives (nodes_in g.state e.key) was.2.0 was.2.1,
        (Ok was.0, known_means kept.sound e.key was.0 was.2, (refl, was.1)),
      )

  pub still_listens : ((e : Effect T) → effect_at g.effects s ≡ Some e → clean_at (vec_items dirty.clean) s ≡ true)
      → HasListened same plan g s g []
  still_listens right = record {
    effects = sym (set-get_or g.effects s None);
    listens = nothing_told (effect_at g.effects s) refl right;
  }

  pub quiet_listens : (c : ℕ) → flag_at (vec_items dirty.blocks) c ≡ false → IsIn s c → HasListened same plan g s g []
  quiet_listens c quiet in_block = still_listens (λ e at. ⊎_elim
      (λ right. right)
      (λ wrong. absurd (true≢false (sym (kept.heard.flagged s c e at wrong in_block) ∙ quiet)))
      (true_or_false (clean_at (vec_items dirty.clean) s)))

module _ {T R : Type 0} {plan : R → Plan T} where
  -- a graph of which effects alone have changed
  pub kept_effects : (old new : GraphState T R) (dirty dirtied : DirtySlots) (web : Web) → IsGraphKept plan old dirty web
      → (new.state ≡ old.state) × (new.revision ≡ old.revision) × (new.known ≡ old.known)
      → AreHeard (book_by old.state old.known web) new.effects dirtied → IsGraphKept plan new dirtied web
  kept_effects old new dirty dirtied web kept (state, revision, known) heard =
      let one : new ≡ record { state = old.state; revision = old.revision; known = old.known; effects = new.effects } =
      λ i. record { state = state i; revision = revision i; known = known i; effects = new.effects } in
      rw one (record { simple = kept.simple; sound = kept.sound; heard = heard })

-- ==== flushes

module _ {T R : Type 0} {plan : R → Plan T} (same : T → T → Bool) where
  -- what a slot's effect got after a node was brought up to date, it got before
  pub listened_after : (old mid new : GraphState T R) (s : ℕ) (news : List (Told T)) → plans_in plan mid ≡ plans_in plan old
      → kind_in mid ≡ kind_in old → mid.effects ≡ old.effects → HasListened same plan mid s new news
      → HasListened same plan old s new news
  listened_after old mid new s news plans kinds effects h = record {
    effects = h.effects ∙ ap (λ es. set es s (effect_at new.effects s)) effects;
    listens = rw (← plans, ← kinds, ← effects) h.listens;
  }

  -- one more slot is up to date
  pub hears_next : (G : Graph T) (kind : Key → Kind) (old new : GraphState T R) (n : ℕ) (before : List (Option (Effect T)))
      (told one : List (Told T)) → plans_in plan old ≡ G → kind_in old ≡ kind
      → AllHear same G kind n before old.effects told → n < length old.effects → HasListened same plan old n new one
      → AllHear same G kind (n + 1) before new.effects (told ++ one)
  hears_next G kind old new n before told one plans kinds all low h =
      let more = hear_more same G kind n before old.effects told one (effect_at old.effects n) (effect_at new.effects n) all
      (slice_get-get_or old.effects n None low) (rw (← plans, ← kinds) h.listens) in
      rw (add-one n, h.effects) more

  -- slots that have nothing to report are up to date
  pub all_quiet : (g : GraphState T R) (n m : ℕ) (before : List (Option (Effect T))) (told : List (Told T))
      → AllHear same (plans_in plan g) (kind_in g) n before g.effects told → n + m ≤ length g.effects
      → ((s : ℕ) → n ≤ s → s < n + m → HasListened same plan g s g [])
      → AllHear same (plans_in plan g) (kind_in g) (n + m) before g.effects told
  all_quiet g n zero before told all low quiet =
      let e : n ≡ n + zero = omega arith in rw (← e) all
  all_quiet g n (suc m) before told all low quiet =
      let one = hears_next (plans_in plan g) (kind_in g) g g n before told [] refl refl all (omega (arith, low))
      (quiet n (omega arith) (omega arith)) in
      let rest = all_quiet g (n + 1) m before told (rw (append-nil told) at one) (omega (arith, low))
      (λ s from to. quiet s (omega (arith, from)) (omega (arith, to))) in
      let e : n + 1 + m ≡ n + suc m = omega arith in rw e at rest

-- the slot's effect, by the name of its node
pub effect_of : {T : Type 0} (o : Option (Effect T)) (k : Key) → named_key o ≡ Some k → (e : Effect T) × (o ≡ Some e) × (e.key ≡ k)
effect_of None k is = absurd (none-some k is)
effect_of (Some e) k is = (e, refl, same_Some e.key k is)

pub watched_low : {T : Type 0} (effects : List (Option (Effect T))) (s : ℕ) (k : Key)
    → named_key (effect_at effects s) ≡ Some k → s < length effects
watched_low effects s k is = let e = effect_of (effect_at effects s) k is in in_range effects s e.0 e.1

module _ {T R : Type 0} {plan : R → Plan T} (same : T → T → Bool) (g : GraphState T R) (dirty : DirtySlots) (web : Web)
    (kept : IsGraphKept plan g dirty web) (s : ℕ) (k : Key) (watched : named_key (effect_at g.effects s) ≡ Some k) where
  low : s < length g.effects
  low = watched_low g.effects s k watched

  slot_is : k.id.slot ≡ s
  slot_is =
      let e = effect_of (effect_at g.effects s) k watched in
      ap (λ x. x.id.slot) (sym e.2) ∙ kept.heard.placed s e.0 e.1

  -- a row that is as it was
  pub row_kept : (row : Option (Effect T)) → row ≡ effect_at g.effects s → set g.effects s row ≡ g.effects
  row_kept row is = rw is (set-get_or g.effects s None)

  pub kept_row : (row : Option (Effect T)) → row ≡ effect_at g.effects s
      → IsGraphKept plan (record { state = g.state; revision = g.revision; known = g.known; effects = set g.effects s row }) dirty web
  kept_row row is = rw (row_kept row is) kept

  -- an effect that got a known value
  pub kept_value : (dirtied : DirtySlots) (f : Effect T) (v : T) → f.key ≡ k → f.told ≡ Some (Ok v)
      → Shows (book_by g.state g.known web) k v
      → ((r : ℕ) → r ≢ s → clean_at (vec_items dirtied.clean) r ≡ clean_at (vec_items dirty.clean) r)
      → dirtied.blocks ≡ dirty.blocks → (clean_at (vec_items dirtied.clean) s ≡ false → clean_at (vec_items dirty.clean) s ≡ false)
      → IsGraphKept plan (record { state = g.state; revision = g.revision; known = g.known; effects = set g.effects s (Some f) }) dirtied web
  kept_value dirtied f v key told shows right blocks wrong = record {
    simple = kept.simple;
    sound = kept.sound;
    heard = heard_put (book_by g.state g.known web) g.effects dirty dirtied s (Some f) kept.heard right
        (λ c flag. ap (λ bs. flag_at (vec_items bs) c) blocks ∙ flag)
        (λ e is. ap (λ x. x.key.id.slot) (sym (same_Some f e is)) ∙ (ap (λ x. x.id.slot) key ∙ slot_is))
        (λ e is yes. rw (← same_Some f e is) (v, told, rw key shows))
        (λ e c is no in_block.
        let old = effect_of (effect_at g.effects s) k watched in
        ap (λ bs. flag_at (vec_items bs) c) blocks ∙ kept.heard.flagged s c old.0 old.1 (wrong no) in_block);
  }

  -- an effect that got a fault, or was removed
  pub kept_flagged : (dirtied : DirtySlots) (row : Option (Effect T)) → ((f : Effect T) → row ≡ Some f → f.key ≡ k)
      → clean_at (vec_items dirtied.clean) s ≡ false
      → ((r : ℕ) → r ≢ s → clean_at (vec_items dirtied.clean) r ≡ clean_at (vec_items dirty.clean) r)
      → ((c : ℕ) → IsIn s c → flag_at (vec_items dirtied.blocks) c ≡ true)
      → ((c : ℕ) → flag_at (vec_items dirty.blocks) c ≡ true → flag_at (vec_items dirtied.blocks) c ≡ true)
      → IsGraphKept plan (record { state = g.state; revision = g.revision; known = g.known; effects = set g.effects s row }) dirtied web
  kept_flagged dirtied row key here right flagged flags = record {
    simple = kept.simple;
    sound = kept.sound;
    heard = heard_put (book_by g.state g.known web) g.effects dirty dirtied s row kept.heard right flags
        (λ e is. ap (λ x. x.id.slot) (key e is) ∙ slot_is)
        (λ e is yes. absurd (true≢false (sym yes ∙ here)))
        (λ e c is no in_block. flagged c in_block);
  }

  -- what it got
  module _ (e : Effect T) (at : effect_at g.effects s ≡ Some e) (key : e.key ≡ k) (new : GraphState T R) where
    pub listened_value : (f : Effect T) (v : T) (news : List (Told T)) → Shows (book_by g.state g.known web) k v
        → Hears same e (Ok v) f news → new.effects ≡ set g.effects s (Some f) → HasListened same plan g s new news
    listened_value f v news shows hears is =
        let here : effect_at new.effects s ≡ Some f = ap (λ es. effect_at es s) is ∙ get_or-set_same g.effects s (Some f) None low in
        record {
          effects = is ∙ ap (set g.effects s) (sym here);
          listens = rw (here, at) (
            rw key (kind_lives (nodes_in g.state k) shows.0 shows.1),
            (Ok v, rw key (known_means kept.sound k v shows), hears),
          );
        }

    pub listened_fault : (f : Effect T) (cause : Fault) (news : List (Told T)) → kind_in g k ≢ NoNode
        → IsTrueOf (plans_in plan g) (kind_in g) k cause
        → Hears same e (Err cause) f news → new.effects ≡ set g.effects s (Some f) → HasListened same plan g s new news
    listened_fault f cause news live true_of hears is =
        let here : effect_at new.effects s ≡ Some f = ap (λ es. effect_at es s) is ∙ get_or-set_same g.effects s (Some f) None low in
        record {
          effects = is ∙ ap (set g.effects s) (sym here);
          listens = rw (here, at) (rw key live, (Err cause, rw key true_of, hears));
        }

    pub listened_end : kind_in g k ≡ NoNode → new.effects ≡ set g.effects s None
        → HasListened same plan g s new (telling e (Err (fault.Gone e.key)) ∷ [])
    listened_end ended is =
        let here : effect_at new.effects s ≡ None = ap (λ es. effect_at es s) is ∙ get_or-set_same g.effects s None None low in
        record {
          effects = is ∙ ap (set g.effects s) (sym here);
          listens = rw (here, at) (rw key ended, refl);
        }

module _ {T R : Type 0} {plan : R → Plan T} (g : GraphState T R) (dirty : DirtySlots) (web : Web)
    (kept : IsGraphKept plan g dirty web) (s : ℕ) where
  -- an effect that was removed
  pub kept_gone : IsGraphKept plan (record { state = g.state; revision = g.revision; known = g.known; effects = set g.effects s None }) dirty web
  kept_gone = record {
    simple = kept.simple;
    sound = kept.sound;
    heard = heard_put (book_by g.state g.known web) g.effects dirty dirty s None kept.heard (λ r ne. refl) (λ c flag. flag)
        (λ e is. absurd (none-some e is)) (λ e is. absurd (none-some e is)) (λ e c is. absurd (none-some e is));
  }

-- the row at an index is the slot's effect
pub row_is : {T : Type 0} (rows : List (Option (Effect T))) (s : ℕ) (x : Option (Effect T)) (e : Effect T) → s < length rows
    → slice_get rows s ≡ Some x → effect_at rows s ≡ Some e → x ≡ Some e
row_is rows s x e in_rows there at = same_Some x (effect_at rows s) (sym there ∙ slice_get-get_or rows s None in_rows) ∙ at

named_none : {T : Type 0} (o : Option (Effect T)) → None ≡ effect_named o → o ≡ None
named_none None none = refl
named_none (Some e) none = absurd (none-some (e.key, e.tag) none)

pub le_or : (m n : ℕ) → (m ≤ n) ⊎ (n < m)
le_or zero n = inl (omega arith)
le_or (suc m) zero = inr (omega arith)
le_or (suc m) (suc n) = ⊎_elim (λ le. inl (omega (arith, le))) (λ lt. inr (omega (arith, lt))) (le_or m n)

-- what a block's flush comes to
abbrev pub Flushed : {T : Type 0} (same : T → T → Bool) (G : Graph T) (kind : Key → Kind) (b : ℕ)
    (before effects : List (Option (Effect T))) (told : List (Told T)) → ℕ → Type 0
Flushed same G kind b before effects told n = AllHear same G kind n before effects told
    × ((n ≡ 64 * b + 64) ⊎ ((n ≡ length before) × (length before < 64 * b + 64)))

module _ {T R : Type 0} {plan : R → Plan T} (same : T → T → Bool) (g : GraphState T R) where
  pub quiet_told : (b : ℕ) (before : List (Option (Effect T))) (told : List (Told T))
      → AllHear same (plans_in plan g) (kind_in g) (64 * b) before g.effects told
      → ((s : ℕ) → IsIn s b → HasListened same plan g s g [])
      → (n : ℕ) × Flushed same (plans_in plan g) (kind_in g) b before g.effects told n
  quiet_told b before told all quiet =
      let long = all_length same (plans_in plan g) (kind_in g) (64 * b) before g.effects told all in ⊎_elim
      (λ le. (64 * b + 64, (all_quiet same g (64 * b) 64 before told all le (λ s from to. quiet s (from, to)), inl refl)))
      (λ lt.
      let rest = length g.effects - 64 * b in
      let e : 64 * b + rest ≡ length g.effects = omega (arith, long.0, long.1) in
      let done = all_quiet same g (64 * b) rest before told all (omega (arith, e))
      (λ s from to. quiet s (from, omega (arith, to, e, lt))) in
      (length g.effects, (rw e at done, inr (long.0, omega (arith, lt, long.0)))))
      (le_or (64 * b + 64) (length g.effects))

module _ {T R : Type 0} {plan : R → Plan T} (g : GraphState T R) (dirty dirtied : DirtySlots) (web : Web)
    (kept : IsGraphKept plan g dirty web) where
  -- a block that needn't be searched any longer
  pub kept_quiet : (block : ℕ) → dirtied.clean ≡ dirty.clean
      → ((b : ℕ) → b ≢ block → flag_at (vec_items dirtied.blocks) b ≡ flag_at (vec_items dirty.blocks) b)
      → ((s : ℕ) (e : Effect T) → IsIn s block → effect_at g.effects s ≡ Some e → clean_at (vec_items dirty.clean) s ≡ true)
      → IsGraphKept plan g dirtied web
  kept_quiet block right others quiet = record {
    simple = kept.simple;
    sound = kept.sound;
    heard = record {
      placed = kept.heard.placed;
      heard = λ s e there is. kept.heard.heard s e there (ap (λ r. clean_at (vec_items r) s) (sym right) ∙ is);
      flagged = λ s c e there wrong in_block.
          let was = ap (λ r. clean_at (vec_items r) s) (sym right) ∙ wrong in ⊎_elim
          (λ same. absurd (true≢false (sym (quiet s e (subst (λ x. IsIn s x) same in_block) there) ∙ was)))
          (λ other. others c other ∙ kept.heard.flagged s c e there was in_block)
          (cases_eq c block);
    };
  }

  -- effects that are alike
  pub kept_alike : (effects : List (Option (Effect T))) → ((s : ℕ) → effect_at effects s ≡ effect_at g.effects s)
      → AreSameSlots dirty dirtied
      → IsGraphKept plan (record { state = g.state; revision = g.revision; known = g.known; effects = effects }) dirtied web
  kept_alike effects same alike = record {
    simple = kept.simple;
    sound = kept.sound;
    heard = heard_alike (book_by g.state g.known web) g.effects effects dirty dirtied kept.heard same alike.clean alike.flags;
  }

  -- a node that is watched, or not
  pub kept_watch : {U E : Type 0} (r : Result U E) (effects : List (Option (Effect T))) (e : Effect T)
      → OnOk r (effect_at effects e.key.id.slot ≡ Some e)
      → ((s : ℕ) → s ≢ e.key.id.slot → effect_at effects s ≡ effect_at g.effects s)
      → OnErr r ((s : ℕ) → effect_at effects s ≡ effect_at g.effects s)
      → OnOk r (HasFlagged dirty e.key.id.slot dirtied) → OnErr r (AreSameSlots dirty dirtied)
      → IsGraphKept plan (record { state = g.state; revision = g.revision; known = g.known; effects = effects }) dirtied web
  kept_watch (Err x) effects e here others refused flagged alike = kept_alike effects refused alike
  kept_watch (Ok u) effects e here others refused flagged alike = record {
    simple = kept.simple;
    sound = kept.sound;
    heard = record {
      placed = λ s f there. ⊎_elim
          (λ same. let is = same_Some e f (sym here ∙ (ap (effect_at effects) (sym same) ∙ there)) in
          ap (λ x. x.key.id.slot) (sym is) ∙ sym same)
          (λ other. kept.heard.placed s f (sym (others s other) ∙ there))
          (cases_eq s e.key.id.slot);
      heard = λ s f there right. ⊎_elim
          (λ same. absurd (true≢false (sym right ∙ (ap (clean_at (vec_items dirtied.clean)) same ∙ flagged.here))))
          (λ other. kept.heard.heard s f (sym (others s other) ∙ there) (sym (flagged.others s other) ∙ right))
          (cases_eq s e.key.id.slot);
      flagged = λ s c f there wrong in_block. ⊎_elim
          (λ same. flagged.flagged c (subst (λ x. IsIn x c) same in_block))
          (λ other. flagged.kept c
          (kept.heard.flagged s c f (sym (others s other) ∙ there) (sym (flagged.others s other) ∙ wrong) in_block))
          (cases_eq s e.key.id.slot);
    };
  }
