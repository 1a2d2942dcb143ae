use Rattle.reactive.proofs.{ap, arith, book, forgotten, HasForgotten, dirtied_after, known_at, Leans, none-some, refl, clean_at, rules, spared_by, subst, sym, true}
use Rattle.reactive.proofs.{vec_items, ℕ, ◌∙◌, ◌≡◌, ◌≢◌, ◌⊎◌}
use Rattle.reactive.proofs.nodes.Nodes.reset.Goals as goal

pub returns-clause-put : goal.returns-clause-put
returns-clause-put g c =
    let done = c.in-Some-change.ensures.changed in
    let called = done.called in
    let told : done.is ≡ record {
      rule = c.args.rule;
      value = c.args.value;
      reads = c.new-reads.result;
      changed = c.in-Some.next;
      checked = 0;
    } = search rules in (
      done.is,
      rw told (record { rule = refl; value = refl; asked = c.new-reads.ensures.items; changed = refl; checked = omega arith }),
      (let h = c.in-Some.ensures in omega arith),
      done.put,
    )

pub returns-clause-live : goal.returns-clause-live
returns-clause-live g c = λ none. none-some _ (sym none ∙ c.in-Some-change.ensures.changed.had)

pub returns-clause-forgotten : goal.returns-clause-forgotten
returns-clause-forgotten g c =
    let now = c.forget.new.self.known.items in
    forgotten (book (g.S.AnyStorage.state c.args.self.now.store) c.args.self.now.links)
    (book (g.S.AnyStorage.state c.change.new.self.store)
    (record { marks = c.forget.new.self; web = c.change.new.self.links.web })) c.args.key
    (ap (λ l. l.web) c.change.ensures.links) _ now refl refl
    (subst (λ l. HasForgotten l.web (vec_items l.marks.known) c.args.key.id.slot now) c.change.ensures.links c.forget.ensures.forgotten)
    c.in-Some-change.ensures.changed.put.others

pub returns-clause-spared : goal.returns-clause-spared
returns-clause-spared g c =
    let now = c.forget.new.self.known.items in
    spared_by (book (g.S.AnyStorage.state c.args.self.now.store) c.args.self.now.links)
    (book (g.S.AnyStorage.state c.change.new.self.store)
    (record { marks = c.forget.new.self; web = c.change.new.self.links.web })) c.args.key
    (λ none. none-some _ (sym none ∙ c.in-Some-change.ensures.changed.had))
    (subst (λ l. (s : ℕ) → (known_at now s ≡ known_at (vec_items l.marks.known) s)
    ⊎ Leans l.web (known_at (vec_items l.marks.known)) s c.args.key.id.slot) c.change.ensures.links c.forget.ensures.spared)

pub returns-clause-dirtied : goal.returns-clause-dirtied
returns-clause-dirtied g c =
    dirtied_after (book (g.S.AnyStorage.state c.args.self.now.store) c.args.self.now.links)
    (book (g.S.AnyStorage.state c.change.new.self.store)
    (record { marks = c.forget.new.self; web = c.change.new.self.links.web })) _ _ c.args.key
    c.forget.ensures.doubted
    (subst (λ l. (s : ℕ) → clean_at (vec_items c.forget.new.dirty.clean) s ≡ true
    → (s ≢ c.args.key.id.slot) × (known_at c.forget.new.self.known.items s ≡ known_at (vec_items l.marks.known) s))
    c.change.ensures.links c.forget.ensures.trusted)
    c.in-Some-change.ensures.changed.put.others
