-- By the test that tells the series' engagements; the point is one of the register.
use Rattle.volumes.proofs.SeriesLaws.{told_at}
use Rattle.series.proofs.FileSeries.rows_of.Goals as goal

pub has_engagement-requires : goal.has_engagement-requires
has_engagement-requires c =
    let a = c.args in
    rw c.point_at-point.ensures (told_at a.register.now a.e.point)
