use Rattle.std.proofs.Common.{◌≡◌, ◌∙◌, ◌∷◌, ◌++◌, ap, sym, refl, Some}
use Rattle.std.proofs.lemmas.Option.{none-some, same_Some}
use Rattle.std.specs.Fmt.{decimal}
use Rattle.generational_box.specs.IdTexts.{IsIdText}
use Rattle.generational_box.proofs.numerals.{joined, parts}
use Rattle.generational_box.proofs.id_text.parse_box_id.Goals as goal

pub returns-in_err-slot : goal.returns-in_err-slot
returns-in_err-slot c = λ id. (
  (λ e. absurd (none-some id (sym c.from_residual.ensures ∙ e))),
  (λ h. absurd (rw c.in_err-slot.was at (parts c.args.text.now c.split_once.result c.split_once.ensures.cases id.slot id.generation h.slot h.text))),
)

pub returns-in_err-slot-2 : goal.returns-in_err-slot-2
returns-in_err-slot-2 c = λ id. (
  (λ e. absurd (none-some id (sym c.from_residual-in_err-slot-2.ensures ∙ e))),
  (λ h.
      let both = rw c.in_ok-slot.was at (parts c.args.text.now c.split_once.result c.split_once.ensures.cases id.slot id.generation h.slot h.text) in
      absurd (none-some id.slot (sym c.in_err-slot-2.was ∙ (c.parse_number.ensures id.slot).1 (h.slot, both.0)))),
)

pub returns-in_err-generation : goal.returns-in_err-generation
returns-in_err-generation c = λ id. (
  (λ e. absurd (none-some id (sym c.from_residual-in_err-generation.ensures ∙ e))),
  (λ h.
      let both = rw c.in_ok-slot.was at (parts c.args.text.now c.split_once.result c.split_once.ensures.cases id.slot id.generation h.slot h.text) in
      absurd (none-some id.generation (sym c.in_err-generation.was ∙ (c.parse_number-2.ensures id.generation).1 (h.generation, both.1)))),
)

pub returns : goal.returns
returns c =
    let slot = (c.parse_number.ensures c.in_ok-slot-2.slot).0 c.in_ok-slot-2.was in
    let generation = (c.parse_number-2.ensures c.in_ok-generation.generation).0 c.in_ok-generation.was in
    let whole = rw c.in_ok-slot.was at (joined c.args.text.now c.split_once.result c.split_once.ensures.cases) in
    let made : IsIdText c.args.number c.args.text.now c.box_id.result = rw c.box_id.ensures (record {
      store = refl;
      slot = slot.0;
      generation = generation.0;
      text = whole ∙ rw (slot.1, generation.1) refl;
    }) in λ id. (
      (λ e. rw (← same_Some c.box_id.result id e) made),
      (λ h.
          let both = rw c.in_ok-slot.was at (parts c.args.text.now c.split_once.result c.split_once.ensures.cases id.slot id.generation h.slot h.text) in
          let s = same_Some c.in_ok-slot-2.slot id.slot (sym c.in_ok-slot-2.was ∙ (c.parse_number.ensures id.slot).1 (h.slot, both.0)) in
          let k = same_Some c.in_ok-generation.generation id.generation (sym c.in_ok-generation.was ∙ (c.parse_number-2.ensures id.generation).1 (h.generation, both.1)) in
          let store = h.store in
          ap Some (c.box_id.ensures ∙ rw (s, k, ← store) refl)),
    )
