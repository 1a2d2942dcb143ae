use Rattle.shared_history.proofs.replies.read_refusal.Goals as goal

pub returns-in-Store : goal.returns-in-Store
returns-in-Store g c = record { reply = λ R call. cc (c.store_reply.ensures.reply R call) }
