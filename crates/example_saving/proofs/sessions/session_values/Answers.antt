use Rattle.std.proofs.Common.{ap, arith, map, None, refl, Some, sym, ℕ, [], ◌++◌, ◌∙◌, ◌∷◌, ◌≡◌}
use Rattle.std.proofs.lemmas.List.{append-nil, map-append}
use Rattle.example_saving.proofs.{values_pushed}
use Rattle.example_saving.specs.Logins.{values_of_entries}
use Rattle.example_saving.proofs.sessions.session_values.Goals as goal

pub loop-key-preserved-in-Continue-1 : goal.loop-key-preserved-in-Continue-1
loop-key-preserved-in-Continue-1 g c =
    let t = c.args.table.now in
    let before = map (λ item. (item.0.now, item.1)) c.loop-key.yielded in
    let one : ℕ × ℕ = (c.in-Some.key.now, c.in-Ok.value.now) in
    let pushed : c.push.new.self.items ≡ c.loop-key.values.items ++ one ∷ [] = grind (arith, c.push.ensures.items) in
    pushed ∙ (ap (λ vs. vs ++ one ∷ []) c.loop-key.invariant
    ∙ sym (ap (values_of_entries t) (map-append (λ item. (item.0.now, item.1)) c.loop-key.yielded ((c.in-Some.key, c.in-Some.entry) ∷ []))
    ∙ values_pushed t before (c.in-Some.key.now, c.in-Some.entry) (Some c.in-Ok.value.now) c.in-Ok.ensures.seen))

pub loop-key-preserved : goal.loop-key-preserved
loop-key-preserved g c =
    let t = c.args.table.now in
    let before = map (λ item. (item.0.now, item.1)) c.loop-key.yielded in
    c.loop-key.invariant
    ∙ sym (ap (values_of_entries t) (map-append (λ item. (item.0.now, item.1)) c.loop-key.yielded ((c.in-Some.key, c.in-Some.entry) ∷ []))
    ∙ (values_pushed t before (c.in-Some.key.now, c.in-Some.entry) None (c.in_default.ensures.stale.0 refl)
    ∙ append-nil (values_of_entries t before)))
