-- What every sink promises of laying.
use Rattle.std.specs.Prelude.{List, [], ◌++◌, ℕ, Option, Some, None}

pub record SinkLaws {S : Type 0} (lays : S → List ℕ → Option Unit → S → Type 0) : Type 0 where
  -- laying nothing changes nothing
  pub nothing : (a : S) → lays a [] (Some tt) a
  -- one part laid behind the other is both laid
  pub one_by_one : (a b c : S) (x y : List ℕ) (u : Unit {0}) (r : Option Unit) → lays a x (Some u) b → lays b y r c → lays a (x ++ y) r c
  -- a part that has no room has none with more behind it
  pub no_more : (a b : S) (x y : List ℕ) → lays a x None b → lays a (x ++ y) None b
