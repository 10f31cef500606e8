-- The corrections of a quarter-hour make up what was requested, so at each position all sheets sum to the requested volume.
use Rattle.std.specs.Prelude.{◌≡◌, refl, Bool, true, false, cond, ℕ, zero, suc, ◌+◌, ◌≤◌, ◌<◌, eqb, leb, ℤ, pos, neg_ℤ, ◌+ℤ◌, ◌-ℤ◌, length, get_or}
use Rattle.std.proofs.Common.{sym, ap, ◌∙◌, ⊎_elim, arith, le-leb, lt-ltb, le-ltb}
use Rattle.std.proofs.Math.Bool.{and-false}
use mathlib.Core.List.Memᴰ
use mathlib.Core.List.{List, [], ◌∷◌, flat_map, zip, zip_with, Memᴰ}
use Rattle.std.proofs.lemmas.List.{length-map}
use Rattle.std.proofs.lemmas.Bool.{lt-leb}
use Rattle.integers.proofs.ZLaws.{eq_z, sum, dif, neg}
use Rattle.integers.specs.Counts.{times}
use Rattle.integers.specs.Ranges.{range}
use Rattle.integers.specs.Sums.{integers, sum_by, sum_z}
use Rattle.integers.proofs.OnceLaws.{Once}
use Rattle.quarters.specs.declared.Calendar.{Calendar}
use Rattle.book.specs.declared.Direction.{Direction}
use Rattle.book.specs.declared.Direction.TheVariants.{Up, Down}
use Rattle.book.specs.declared.Point.{Point}
use Rattle.book.specs.declared.Engagement.{Engagement}
use Rattle.grains.specs.Grains.{grains_z}
use Rattle.book.specs.Header.{splits}
use Rattle.book.specs.Book.{Book}
use Rattle.quarters.specs.Quarters.{month_quarters}
use Rattle.volumes.specs.Baseline.{no_point, point_of, watts, own_reading, baseline}
use Rattle.volumes.specs.Settlement.{delivered, requested_at, injection_share, injection_by, signed, source_correction, fsp_correction, injection_correction, corrections}
use Rattle.volumes.proofs.SplitLaws.{shares_whole, signed-zero}
use Rattle.volumes.specs.Sheets.{start_position, covers, quarter_at, parties_of, parties, share_of, correction_at, sheet_at, sheet, requested_by, requested_volume}
use Rattle.integers.proofs.RangesLaws.{length-range}
use Rattle.integers.proofs.SumsLaws.{sum-zero, sum-cong, sum-swap, sum-once}

-- the corrections of a quarter-hour make up what was requested: the two source parties' shares make up the delivered volume
three : (d : Direction) (r v : ℤ) (s i : ℕ) → pos (s + i) ≡ v → signed d (pos s) +ℤ (signed d (r -ℤ v) +ℤ (signed d (pos i) +ℤ pos 0)) ≡ signed d r
unfolding signed
three Up r v s i h =
    let rest = pos i +ℤ pos 0 in
    rw (← h) (eq_z _ _ (omega (arith, (dif r (pos (s + i))).law, (sum (pos i) (pos 0)).law, (sum (r -ℤ pos (s + i)) rest).law, (sum (pos s) ((r -ℤ pos (s + i)) +ℤ rest)).law)))
three Down r v s i h =
    let rest = neg_ℤ (pos i) +ℤ pos 0 in
    let fsp = neg_ℤ (r -ℤ pos (s + i)) in
    rw (← h) (eq_z _ _ (omega (arith, (dif r (pos (s + i))).law, neg (pos s), neg (pos i), neg r, neg (r -ℤ pos (s + i)), (sum (neg_ℤ (pos i)) (pos 0)).law, (sum fsp rest).law, (sum (neg_ℤ (pos s)) (fsp +ℤ rest)).law)))

pub balanced : (book : Book) (e : Engagement) (k : ℕ) → sum_z (λ z. z) (corrections book e k) ≡ signed e.direction (pos (requested_at e k))
unfolding corrections sum_by source_correction fsp_correction injection_correction
balanced book e k =
    let base = baseline book e k in
    let read = grains_z (watts (own_reading book e k)) in
    three e.direction (pos (requested_at e k)) (pos (delivered book e k)) _ _ (ap pos (shares_whole book.version e.direction base read (delivered book e k)))

-- each of these parties gets its own, all of them all: over parties among which each one stands once
share-all : (amounts : List (ℕ × ℤ)) (ps : List ℕ) → ((a : ℕ × ℤ) → Memᴰ a amounts → times a.0 ps ≡ 1) → sum_z (λ party. share_of party amounts) ps ≡ sum_z (λ a. a.1) amounts
unfolding share_of
share-all amounts ps h =
    sum-swap integers (λ party a. cond (eqb a.0 party) a.1 (pos 0)) ps amounts
    ∙ sum-cong integers _ _ amounts (λ a m. sum-once integers a.0 (λ _. a.1) ps (h a m))

-- the columns hold all corrections: what has no column in version 1 is 0
columns-all : (book : Book) (e : Engagement) (k : ℕ) → sum_z (λ a. a.1) (zip (parties_of book.version (point_of book e)) (corrections book e k)) ≡ sum_z (λ z. z) (corrections book e k)
unfolding parties_of corrections injection_correction injection_by zip zip_with sum_by
columns-all book e k = go (splits book.version)
  where
    point : Point
    point = point_of book e

    share : ℕ
    share = injection_share e.direction (baseline book e k) (grains_z (watts (own_reading book e k))) (delivered book e k)

    go : (t : Bool) → sum_z (λ a. a.1) (zip (point.sourceparty ∷ point.fspparty ∷ cond t (point.injectionparty ∷ []) []) (source_correction book e k ∷ fsp_correction book e k ∷ signed e.direction (pos (cond t share 0)) ∷ []))
        ≡ sum_z (λ z. z) (source_correction book e k ∷ fsp_correction book e k ∷ signed e.direction (pos (cond t share 0)) ∷ [])
    go true = refl
    go false = ap (λ (z : ℤ). source_correction book e k +ℤ (fsp_correction book e k +ℤ (z +ℤ pos 0))) (sym (signed-zero e.direction))

-- what stands in a pair of two lists stands in the first
first-named : (l : List ℕ) (m : List ℤ) (a : ℕ × ℤ) → Memᴰ a (zip l m) → Memᴰ a.0 l
unfolding zip zip_with
first-named [] m a h = absurd (Memᴰ.not-nil h)
first-named (n ∷ l) [] a h = absurd (Memᴰ.not-nil h)
first-named (n ∷ l) (z ∷ m) a h = ⊎_elim (λ q. Memᴰ.head (ap (λ a. a.0) q)) (λ k. Memᴰ.tail (first-named l m a k)) (Memᴰ.cases_cons h)

-- the parties of an engagement's point, each once
pub OnceEach : Book → List ℕ → Engagement → Type 0
OnceEach book ps e = (party : ℕ) → Memᴰ party (parties_of book.version (point_of book e)) → times party ps ≡ 1

covered-all : (book : Book) (ps : List ℕ) (e : Engagement) (k : ℕ) → OnceEach book ps e → sum_z (λ party. share_of party (zip (parties_of book.version (point_of book e)) (corrections book e k))) ps ≡ signed e.direction (pos (requested_at e k))
unfolding OnceEach
covered-all book ps e k h =
    let columns = parties_of book.version (point_of book e) in
    share-all (zip columns (corrections book e k)) ps (λ a m. h a.0 (first-named columns (corrections book e k) a m))
    ∙ columns-all book e k
    ∙ balanced book e k

sheets-of : (book : Book) (ps : List ℕ) → ((e : Engagement) → Memᴰ e book.engagements → OnceEach book ps e) → (p : ℕ) → sum_z (λ party. sheet_at book party p) ps ≡ requested_volume book p
unfolding sheet_at requested_volume correction_at requested_by
sheets-of book ps h p =
    sum-swap integers (λ party e. correction_at book party p e) ps book.engagements
    ∙ sum-cong integers _ _ book.engagements (λ e m. at e (covers book.calendar e p) (h e m))
  where
    at : (e : Engagement) (t : Bool) → OnceEach book ps e → sum_z (λ party. cond t (share_of party (zip (parties_of book.version (point_of book e)) (corrections book e (quarter_at book.calendar e p)))) (pos 0)) ps ≡ cond t (signed e.direction (pos (requested_at e (quarter_at book.calendar e p)))) (pos 0)
    at e true o = covered-all book ps e (quarter_at book.calendar e p) o
    at e false o = sum-zero integers ps

-- a point's parties are parties of the register
point-parties : (version : ℕ) (l : List Point) (n party : ℕ) → n < length l → Memᴰ party (parties_of version (get_or l n no_point)) → Memᴰ party (flat_map (parties_of version) l)
unfolding flat_map
point-parties version [] n party h m = absurd (omega arith)
point-parties version (point ∷ l) zero party h m = Memᴰ.append_left (flat_map (parties_of version) l) m
point-parties version (point ∷ l) (suc n) party h m = Memᴰ.append_right (parties_of version point) (point-parties version l n party (omega arith) m)

-- "the sheets of all parties in the register, each party once": at each position they sum to the requested volume
pub balance : (book : Book) (ps : List ℕ) → Once ps (parties book) → ((e : Engagement) → Memᴰ e book.engagements → e.point < length book.points) → (p : ℕ) → sum_z (λ party. sheet_at book party p) ps ≡ requested_volume book p
unfolding OnceEach parties point_of
balance book ps once inside p = sheets-of book ps (λ e m party k. once.once party (point-parties book.version book.points e.point party (inside e m) k)) p

-- a sheet has a number for each quarter-hour of the month
pub sheet-length : (book : Book) (party : ℕ) → length (sheet book party) ≡ month_quarters book.calendar
unfolding sheet
sheet-length book party = length-map (range 1 (month_quarters book.calendar)) (sheet_at book party) ∙ length-range 1 (month_quarters book.calendar)

-- an engagement covers its own positions and no others
pub covers-inside : (c : Calendar) (e : Engagement) (k : ℕ) → k < e.count → covers c e (start_position c e + k) ≡ true
unfolding covers
covers-inside c e k h = rw (le-leb (start_position c e) (start_position c e + k) (omega arith), lt-ltb (start_position c e + k) (start_position c e + e.count) (omega arith))

pub covers-before : (c : Calendar) (e : Engagement) (p : ℕ) → p < start_position c e → covers c e p ≡ false
unfolding covers
covers-before c e p h = rw (lt-leb (start_position c e) p h)

pub covers-after : (c : Calendar) (e : Engagement) (p : ℕ) → start_position c e + e.count ≤ p → covers c e p ≡ false
unfolding covers
covers-after c e p h = rw (le-ltb p (start_position c e + e.count) h) (and-false (leb (start_position c e) p))

pub quarter-at : (c : Calendar) (e : Engagement) (k : ℕ) → quarter_at c e (start_position c e + k) ≡ k
unfolding quarter_at
quarter-at c e k = omega arith

-- what an engagement adds to a sheet at its quarter-hour k
pub correction-inside : (book : Book) (party : ℕ) (e : Engagement) (k : ℕ) → k < e.count → correction_at book party (start_position book.calendar e + k) e ≡ share_of party (zip (parties_of book.version (point_of book e)) (corrections book e k))
unfolding correction_at
correction-inside book party e k h = rw (covers-inside book.calendar e k h, quarter-at book.calendar e k)
