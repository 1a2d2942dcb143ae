use Rattle.reactive.proofs.Linking.{get_same, put_edges, put_only}
use Rattle.reactive.proofs.{inl, inr, length, refl, ⊎_elim, rules, sym, ◌<◌, ◌≡◌, true, subst, ◌⊎◌}
use Rattle.reactive.specs.Links.{edges_by, is_current}
use Rattle.std.specs.List.{Contains}
use Rattle.std.proofs.lemmas.Option.{slice_get_read}
use Rattle.reactive.proofs.links.Web.link.Goals as goal

pub returns-clause-kept : goal.returns-clause-kept
returns-clause-kept c = λ s e h why.
    let rs = c.reserve_readers.new.self.readers.items in
    let lt : c.args.to < length rs = search rules in
    let there = slice_get_read rs _ c.args.to c.index_mut.result.now refl lt c.index_mut.ensures.value in
    let current : (is_current c.reserve_readers.new.self.owners.items e ≡ true) ⊎ (e ≡ c.args.edge) =
    rw c.reserve_readers.ensures.owners why in
    put_edges rs c.args.to s c.add.new.edges e lt
    (λ old. c.add.ensures.kept e (subst (λ x. Contains (edges_by x) e) there old) current)
    (subst (λ es. Contains es e) (sym (c.reserve_readers.ensures.readers s)) h)

pub returns-clause-added : goal.returns-clause-added
returns-clause-added c = λ ok.
    let rs = c.reserve_readers.new.self.readers.items in
    let lt : c.args.to < length rs = search rules in
    rw (get_same rs c.args.to c.add.new.edges lt) (c.add.ensures.added ok)

pub returns-clause-only : goal.returns-clause-only
returns-clause-only c = λ s e h.
    let rs = c.reserve_readers.new.self.readers.items in
    let lt : c.args.to < length rs = search rules in
    let there = slice_get_read rs _ c.args.to c.index_mut.result.now refl lt c.index_mut.ensures.value in
    ⊎_elim
    (λ was. inl (subst (λ es. Contains es e) (c.reserve_readers.ensures.readers s) was))
    (λ is. inr is)
    (put_only rs c.args.to s c.add.new.edges e c.args.edge lt
    (λ in_it. ⊎_elim
    (λ was. inl (subst (λ x. Contains (edges_by x) e) (sym there) was))
    (λ is. inr is)
    (c.add.ensures.only e in_it))
    h)

pub returns-then-not-reserve_readers-clause-only : goal.returns-then-not-reserve_readers-clause-only
returns-then-not-reserve_readers-clause-only c = λ s e h.
    inl (subst (λ es. Contains es e) (c.reserve_readers.ensures.readers s) h)
