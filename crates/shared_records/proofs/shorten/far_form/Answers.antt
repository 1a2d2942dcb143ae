use Rattle.shared_records.proofs.{extends_own, stands_wider}
use Rattle.shared_records.proofs.shorten.far_form.Goals as goal

pub returns : goal.returns
returns g c = stands_wider c.args.taken.number c.form.new.locations _ c.args.taken.reached _ c.in_ok-short.short
    (rw (← c.own.view_is) (extends_own c.own.inside.first c.own.inside.second _ _ c.in_ok-first.was
    c.unwrap_or.ensures)) c.in_ok-short.ensures.form
