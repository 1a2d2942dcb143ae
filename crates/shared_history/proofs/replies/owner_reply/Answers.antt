use Rattle.shared_history.proofs.replies.owner_reply.Goals as goal

pub returns-in-Err : goal.returns-in-Err
returns-in-Err g c = record { reply = λ R call. cc (c.store_reply.ensures.reply R call) }
