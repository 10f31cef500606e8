-- What a file says (document 01, "The file").
use Rattle.std.specs.Prelude.{List, ℕ, ◌+◌, ◌*◌}
use Rattle.kinds.specs.declared.Kind.{Kind}

-- "Positions count the quarter-hours that the month has", "Quantity is kilowatts with three decimals", here in watts
pub record Observation : Type 0 where
  pub position : ℕ
  pub watts : ℕ

-- "one partner, supply and delivery direction", and the month of its period: "All series of a file have the same period"
pub record TimeSeries : Type 0 where
  pub supply : ℕ
  pub delivery : ℕ
  pub year : ℕ
  pub month : ℕ
  pub observations : List Observation

-- a supplier (TOE01), an FSP (TOE02) or an access point (TOE03)
pub record Partner : Type 0 where
  pub number : ℕ
  pub series : List TimeSeries

pub record File : Type 0 where
  pub kind : Kind
  pub receiver : ℕ
  pub id : List ℕ
  pub moment : List ℕ
  pub partners : List Partner

-- "off-take before injection, up before down": 0 and 1 each
abbrev pub place : TimeSeries → ℕ
place s = s.supply * 2 + s.delivery

-- by which observations and partners rise
abbrev pub position : Observation → ℕ
position o = o.position

abbrev pub number : Partner → ℕ
number p = p.number
