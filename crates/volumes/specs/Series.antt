-- Document 01, "Delivered volume, corrections, series": the series of a file.
use Rattle.std.specs.Prelude.{Bool, true, false, cond, ◌&&◌, ℕ, eqb}
use Rattle.integers.specs.Sums.{sum_of}
use Rattle.integers.specs.Running.{floor_at}
use Rattle.grains.specs.Grains.{per_watt}
use Rattle.book.specs.declared.Situation.{Situation}
use Rattle.book.specs.declared.Situation.TheVariants.{Transfer, PassThrough, OptOut, NetInjector}
use Rattle.book.specs.declared.Supply.{Supply}
use Rattle.book.specs.declared.Supply.TheVariants.{OffTake, Injection}
use Rattle.book.specs.declared.Direction.{Direction}
use Rattle.book.specs.declared.Direction.TheVariants.{Up, Down}
use Rattle.book.specs.declared.Point.{Point}
use Rattle.book.specs.declared.Engagement.{Engagement}
use Rattle.book.specs.Book.{Book}
pub use Rattle.kinds.specs.declared.Kind.{Kind}
pub use Rattle.kinds.specs.declared.Kind.TheVariants.{Toe01, Toe02, Toe03}
use Rattle.volumes.specs.declared.Series.{Series}
use Rattle.volumes.specs.Baseline.{point_of}
use Rattle.volumes.specs.Settlement.{delivered}
use Rattle.volumes.specs.Sheets.{covers, quarter_at}

-- "TOE01 .. and TOE02 .. take transfer points; TOE03 .. takes pass-through points; the rest appear in none"
unfoldable pub takes : Kind → Situation → Bool
takes Toe01 Transfer = true
takes Toe01 PassThrough = false
takes Toe01 OptOut = false
takes Toe01 NetInjector = false
takes Toe02 Transfer = true
takes Toe02 PassThrough = false
takes Toe02 OptOut = false
takes Toe02 NetInjector = false
takes Toe03 Transfer = false
takes Toe03 PassThrough = true
takes Toe03 OptOut = false
takes Toe03 NetInjector = false

-- "TOE01 (one FSP, by supplier) and TOE02 (one supplier, by FSP) ..; TOE03 (one supplier, by access point)"
unfoldable pub receiver_of : Kind → Point → ℕ
receiver_of Toe01 point = point.fsp
receiver_of Toe02 point = point.supplier
receiver_of Toe03 point = point.supplier

unfoldable pub partner_of : Kind → Point → ℕ
partner_of Toe01 point = point.supplier
partner_of Toe02 point = point.fsp
partner_of Toe03 point = point.access

-- "A series is one partner, supply and delivery direction"
abbrev pub series_of : ℕ → Supply → Direction → Series
series_of partner supply delivery = record { partner = partner; supply = supply; delivery = delivery }

unfoldable pub same_supply : Supply → Supply → Bool
same_supply OffTake OffTake = true
same_supply OffTake Injection = false
same_supply Injection OffTake = false
same_supply Injection Injection = true

unfoldable pub same_direction : Direction → Direction → Bool
same_direction Up Up = true
same_direction Up Down = false
same_direction Down Up = false
same_direction Down Down = true

-- "its points are the taken ones that have the receiver, the partner and the supply direction"
unfoldable pub is_point : Kind → ℕ → Series → Point → Bool
is_point kind receiver s point =
    takes kind point.situation
    && (eqb (receiver_of kind point) receiver
    && (eqb (partner_of kind point) s.partner && same_supply point.supply s.supply))

-- an engagement is one of the series': of one of its points, "in its delivery direction"
unfoldable pub is_engagement : Book → Kind → ℕ → Series → Engagement → Bool
is_engagement book kind receiver s e = is_point kind receiver s (point_of book e) && same_direction e.direction s.delivery

-- "its grains the delivered volumes of their engagements in its delivery direction": what one engagement adds at a position, and all
unfoldable pub grains_of : Book → Kind → ℕ → Series → ℕ → Engagement → ℕ
grains_of book kind receiver s p e =
    let volume : ℕ = delivered book e (quarter_at book.calendar e p) in
    cond (is_engagement book kind receiver s e && covers book.calendar e p) volume 0

unfoldable pub grains_at : Book → Kind → ℕ → Series → ℕ → ℕ
grains_at book kind receiver s p = sum_of (grains_of book kind receiver s p) book.engagements

-- "The watts at a position are the series' grains up to it, over 30,240 rounded down, less the same before it."
unfoldable pub series_watts : Book → Kind → ℕ → Series → ℕ → ℕ
series_watts book kind receiver s p = floor_at per_watt (grains_at book kind receiver s) p
