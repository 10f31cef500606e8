-- Its point and its direction are the series'.
use mathlib.Core.Path.{ap, ap₂, ◌∙◌}
use mathlib.Core.Bool.{◌&&◌}
use Rattle.volumes.specs.Series.{is_point, is_engagement}
use Rattle.series.proofs.SameLaws.{direction-same}
use Rattle.series.proofs.FileSeries.has_engagement.Goals as goal

pub returns : goal.returns
unfolding is_engagement
returns c = λ b own.
    let s = c.args.self in
    ap₂ ◌&&◌ (c.has_point.ensures ∙ ap (is_point s.role.kind s.role.receiver s.series) own) (c.eq.ensures ∙ direction-same c.args.e.direction s.series.delivery)
