use Rattle.reactive.proofs.{ap, asked_more, asked_of, given_more, map_push, nodes_in, rules, shown_from, Some}
use Rattle.reactive.proofs.{sym, [], ◌++◌, ◌∙◌, ◌∷◌, ◌≡◌}
use Rattle.reactive.specs.Asking.{asked_by}
use Rattle.reactive.proofs.reader.ReaderReads.get.Goals as goal

pub returns-in-Ok-clause-some : goal.returns-in-Ok-clause-some
returns-in-Ok-clause-some g c =
    let shown = shown_from (nodes_in (g.S.AnyStorage.state c.args.self.now.store.now)) c.args.self.now.marks.now.known.items in
    let is : shown c.args.key ≡ Some c.in-Ok.copy = sym c.in-Some.ensures ∙ ap Some (sym c.in-Ok.ensures.copy) in
    let more = asked_more shown (asked_by c.args.self.now.questions) c.args.key c.in-Ok.copy is in
    (rw c.in-Ok.ensures.noted more, search rules, search rules)

pub returns-in-Ok-clause-right : goal.returns-in-Ok-clause-right
returns-in-Ok-clause-right g c = λ shown kept h.
    let known = shown_from (nodes_in (g.S.AnyStorage.state c.args.self.now.store.now)) c.args.self.now.marks.now.known.items in
    let keys = asked_by c.args.self.now.questions in
    let is : known c.args.key ≡ Some c.in-Ok.copy = sym c.in-Some.ensures ∙ ap Some (sym c.in-Ok.ensures.copy) in
    rw (c.in-Ok.ensures.noted, asked_more known keys c.args.key c.in-Ok.copy is) (
      ap (λ b. b.now) c.copy_and_note.ensures.kept ∙ h.0,
      h.1,
      map_push (λ a. a.key) (asked_of known keys) _ ∙ ap (λ ks. ks ++ c.args.key ∷ []) h.2,
      given_more shown (asked_of known keys) c.args.key c.in-Ok.copy (sym (h.1 c.args.key) ∙ is) h.3,
    )
