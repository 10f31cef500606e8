-- A scan of the register finds who is in a role, and the least partner from a number on; so partners follow each other as the file has them.
use Rattle.std.specs.Prelude.{◌≡◌, ◌&&◌, ℕ, suc, ◌+◌, ◌≤◌, ◌<◌}
use Rattle.std.proofs.Math.Path.{refl}
use Rattle.std.proofs.Common.{sym, ap, ◌∙◌, add-one, arith, below_more}
use Rattle.std.proofs.Math.Bool.{Bool, true, false, cond}
use mathlib.Core.List.Memᴰ
use mathlib.Core.List.{List, [], ◌∷◌, ◌++◌, map, Memᴰ}
use Rattle.std.proofs.Math.Option.{none}
use Rattle.std.proofs.Math.Dec.{leb, ltb}
use borrow.Author.Tests.{leb-true, leb-false, ltb-true, ltb-false, le-leb}
use Rattle.integers.specs.Ranges.{range}
use Rattle.integers.proofs.TestsLaws.{both}
use Rattle.integers.specs.Keep.{keep, is_some}
use Rattle.integers.proofs.KeepLaws.{mem-keep, keep-mem}
use Rattle.integers.proofs.ScanLaws.{next-least, all_from, no-next}
use Rattle.book.specs.declared.Point.{Point}
use Rattle.book.specs.Header.{register_section}
use Rattle.book.specs.Register.{point_at}
use Rattle.book.specs.Judged.{refusal_of}
use Rattle.book.specs.Book.{Book, book_of}
use Rattle.settlement.specs.SectionsInner.{point_count_in}
use Rattle.settlement.specs.SectionsLaws.{points-counted}
use Rattle.volumes.specs.Series.{Kind, Toe01, Toe02, Toe03, receiver_of, partner_of}
use Rattle.volumes.proofs.SoundLaws.{mem-range}
use Rattle.volumes.proofs.UsedLaws.{range-mem}
use Rattle.message.specs.Contents.{Partner}
use Rattle.reports.specs.FileRows.{is_taken, partner_numbers, partners_of, partners_by}
use Rattle.reports.specs.RegisteredInner.{NumbersFit, Registered}
use Rattle.reports.specs.Roles.{receivers}
use Rattle.reports.specs.Calls.{stands}
use Rattle.reports.proofs.CallsLaws.{stands-mem, mem-stands}
use Rattle.partners.specs.PartnersInner.{points_in, partner_column, no_partner, Next, partner_if, partners_from}
use Rattle.reports.specs.FileRowsInner.{partner_at}

-- ---- the points of the register

pub points-in : (bytes : List ℕ) → refusal_of bytes ≡ none → points_in (register_section bytes) ≡ (book_of bytes).points
unfolding points_in book_of
points-in bytes e = rw (points-counted bytes e)

point-mem : (register : List ℕ) (i : ℕ) → i < point_count_in register → Memᴰ (point_at register i) (points_in register)
unfolding points_in
point-mem register i h = Memᴰ.map (point_at register) (range-mem 0 (point_count_in register) i (omega arith) (omega arith))

mem-point : (register : List ℕ) (point : Point) → Memᴰ point (points_in register) → (i : ℕ) × (i < point_count_in register) × (point_at register i ≡ point)
unfolding points_in
mem-point register point m = go (Memᴰ.of_map (point_at register) (range 0 (point_count_in register)) m)
  where
    go : (i : ℕ) × Memᴰ i (range 0 (point_count_in register)) × (point_at register i ≡ point) → (i : ℕ) × (i < point_count_in register) × (point_at register i ≡ point)
    go (i, k, q) = let r = mem-range 0 (point_count_in register) i k in (i, omega arith, q)

-- ---- who is in a role

module _ (register : List ℕ) (kind : Kind) (receiver : ℕ) where
  pub role-found : (i : ℕ) → i < point_count_in register → receiver_of kind (point_at register i) ≡ receiver → stands receiver (map (receiver_of kind) (points_in register)) ≡ true
  role-found i h e = mem-stands receiver (map (receiver_of kind) (points_in register)) (Memᴰ.cast (sym e) (Memᴰ.map (receiver_of kind) (point-mem register i h)))

  pub role-none : ((i : ℕ) → i < point_count_in register → receiver_of kind (point_at register i) ≡ receiver → ⊥) → stands receiver (map (receiver_of kind) (points_in register)) ≡ false
  role-none h = go (stands receiver (map (receiver_of kind) (points_in register))) refl
    where
      at : (point : Point) × Memᴰ point (points_in register) × (receiver_of kind point ≡ receiver) → ⊥
      at (point, m, e) = let i = mem-point register point m in h i.0 i.1 (ap (receiver_of kind) i.2 ∙ e)

      go : (b : Bool) → stands receiver (map (receiver_of kind) (points_in register)) ≡ b → b ≡ false
      go true e = absurd (at (Memᴰ.of_map (receiver_of kind) (points_in register) (stands-mem receiver (map (receiver_of kind) (points_in register)) e)))
      go false e = refl

-- the register's points are the book's
pub role-in : (bytes register : List ℕ) (kind : Kind) (receiver : ℕ) → refusal_of bytes ≡ none → register ≡ register_section bytes → stands receiver (map (receiver_of kind) (points_in register)) ≡ stands receiver (receivers (book_of bytes) kind)
unfolding receivers
role-in bytes register kind receiver h e = rw (e, points-in bytes h)

-- ---- the least partner from a number on

-- row j, if it is taken, has no partner from `low` on that is below n
abbrev AtMost : List ℕ → Kind → ℕ → ℕ → ℕ → ℕ → Type 0
AtMost register kind receiver low n j = is_taken kind receiver (point_at register j) ≡ true → low ≤ partner_of kind (point_at register j) → n ≤ partner_of kind (point_at register j)

-- the same, of the first i rows
pub record PartnersScanned (register : List ℕ) (kind : Kind) (receiver low i next : ℕ) : Type 0 where
  pub found : next < no_partner → (j : ℕ) × (j < i) × (is_taken kind receiver (point_at register j) ≡ true) × (partner_of kind (point_at register j) ≡ next) × (low ≤ next)
  pub least : (j : ℕ) → j < i → is_taken kind receiver (point_at register j) ≡ true → low ≤ partner_of kind (point_at register j) → next ≤ partner_of kind (point_at register j)

-- the nearer of two: a taken point's partner that is not below `low`, if it is below `next`
unfoldable pub nearer : Bool → ℕ → ℕ → ℕ → ℕ
nearer taken low partner next = cond (taken && (leb low partner && ltb partner next)) partner next

module _ (register : List ℕ) (kind : Kind) (receiver low : ℕ) where
  pub scanned-none : PartnersScanned register kind receiver low 0 no_partner
  scanned-none = record { found = λ h. absurd (omega arith); least = λ j h. absurd (omega arith) }

  pub scanned-more : (i next : ℕ) → PartnersScanned register kind receiver low i next → PartnersScanned register kind receiver low (i + 1) (nearer (is_taken kind receiver (point_at register i)) low (partner_of kind (point_at register i)) next)
  unfolding nearer
  scanned-more i next s = go (is_taken kind receiver (point_at register i) && (leb low (partner_of kind (point_at register i)) && ltb (partner_of kind (point_at register i)) next)) refl
    where
      taken : Bool
      taken = is_taken kind receiver (point_at register i)

      partner : ℕ
      partner = partner_of kind (point_at register i)

      left : (taken && (leb low partner && ltb partner next)) ≡ false → AtMost register kind receiver low next i
      left e t l = ltb-false partner next (rw (t, le-leb low partner l) at e)

      go : (b : Bool) → (taken && (leb low partner && ltb partner next)) ≡ b → PartnersScanned register kind receiver low (i + 1) (cond b partner next)
      go true e =
          let u = both taken (leb low partner && ltb partner next) e in
          let v = both (leb low partner) (ltb partner next) u.1 in
          let h : partner < next = ltb-true partner next v.1 in
          record {
            found = λ k. (i, omega arith, u.0, refl, leb-true low partner v.0);
            least = below_more (AtMost register kind receiver low partner) i (λ j k t l. let m : next ≤ partner_of kind (point_at register j) = s.least j k t l in omega arith) (λ t l. omega arith);
          }
      go false e = record { found = λ k. let f = s.found k in (f.0, omega (arith, f.1), f.2, f.3, f.4); least = below_more (AtMost register kind receiver low next) i s.least (left e) }

-- of all rows: the next of the column
pub scanned-all : (register : List ℕ) (kind : Kind) (receiver low next : ℕ) → PartnersScanned register kind receiver low (point_count_in register) next → Next low (partner_column (points_in register) kind receiver) next
unfolding partner_column
scanned-all register kind receiver low next s = record { member = λ h. found (s.found h); least = λ x m l. at x l (Memᴰ.of_map (partner_of kind) (keep (is_taken kind receiver) (points_in register)) m) }
  where
    found : (j : ℕ) × (j < point_count_in register) × (is_taken kind receiver (point_at register j) ≡ true) × (partner_of kind (point_at register j) ≡ next) × (low ≤ next) → Memᴰ next (map (partner_of kind) (keep (is_taken kind receiver) (points_in register))) × (low ≤ next)
    found (j, h, t, e, l) = (Memᴰ.cast (sym e) (Memᴰ.map (partner_of kind) (keep-mem (is_taken kind receiver) (points_in register) (point_at register j) (point-mem register j h) t)), l)

    row : (x : ℕ) → low ≤ x → (point : Point) → (is_taken kind receiver point ≡ true) → partner_of kind point ≡ x → (i : ℕ) × (i < point_count_in register) × (point_at register i ≡ point) → next ≤ x
    row x l point t e (i, h, q) =
        let k : partner_of kind (point_at register i) ≡ x = ap (partner_of kind) q ∙ e in
        omega (arith, s.least i h (ap (is_taken kind receiver) q ∙ t) (omega arith))

    at : (x : ℕ) → low ≤ x → (point : Point) × Memᴰ point (keep (is_taken kind receiver) (points_in register)) × (partner_of kind point ≡ x) → next ≤ x
    at x l (point, m, e) = let k = mem-keep (is_taken kind receiver) (points_in register) point m in row x l point k.1 e (mem-point register point k.0)

-- ---- the partners that a file has, one after another

module _ (book : Book) (kind : Kind) (receiver : ℕ) where
  pub partners-all : partners_from book kind receiver 0 ≡ partners_of book kind receiver
  unfolding partners_from partners_of partners_by partner_at partner_numbers
  partners-all = rw (all_from (map (partner_of kind) (keep (is_taken kind receiver) book.points)))

  keep-first : (p : Partner) (l : List Partner) → keep (λ q. is_some q.series) (p ∷ l) ≡ keep (λ q. is_some q.series) (p ∷ []) ++ keep (λ q. is_some q.series) l
  unfolding keep
  keep-first p l = go (is_some p.series)
    where
      go : (b : Bool) → cond b (p ∷ keep (λ q. is_some q.series) l) (keep (λ q. is_some q.series) l) ≡ cond b (p ∷ []) [] ++ keep (λ q. is_some q.series) l
      go true = refl
      go false = refl

  pub partners-next : (low next : ℕ) → Next low (partner_column book.points kind receiver) next → next < no_partner → partners_from book kind receiver low ≡ partner_if book kind receiver next ++ partners_from book kind receiver (next + 1)
  unfolding partners_from partner_if partner_numbers partner_column
  partners-next low next s h =
      let m = s.member h in
      rw (add-one, next-least low next (partner_column book.points kind receiver) (record { member = m.0; from = m.1; least = s.least }))
      (keep-first (partner_at book kind receiver next) (map (partner_at book kind receiver) (keep (leb (suc next)) (partner_numbers book kind receiver))))

  below : (k : Kind) (point : Point) → NumbersFit point → partner_of k point < no_partner
  unfolding partner_of
  below Toe01 point n = omega (arith, n.supplier)
  below Toe02 point n = omega (arith, n.fsp)
  below Toe03 point n = omega (arith, n.access)

  pub column-below : Registered book → (x : ℕ) → Memᴰ x (partner_column book.points kind receiver) → x < no_partner
  unfolding partner_column
  column-below r x m = at (Memᴰ.of_map (partner_of kind) (keep (is_taken kind receiver) book.points) m)
    where
      at : (point : Point) × Memᴰ point (keep (is_taken kind receiver) book.points) × (partner_of kind point ≡ x) → x < no_partner
      at (point, k, e) = omega (arith, below kind point (r.numbered point (mem-keep (is_taken kind receiver) book.points point k).0))

  pub partners-end : Registered book → (low next : ℕ) → Next low (partner_column book.points kind receiver) next → no_partner ≤ next → partners_from book kind receiver low ≡ []
  unfolding partners_from partner_numbers partner_column keep
  partners-end r low next s h = rw (no-next low (partner_column book.points kind receiver) (λ x m. left x m (leb low x) refl))
    where
      left : (x : ℕ) → Memᴰ x (partner_column book.points kind receiver) → (b : Bool) → leb low x ≡ b → x < low
      left x m true e = absurd (omega (arith, s.least x m (leb-true low x e), column-below r x m))
      left x m false e = leb-false low x e
