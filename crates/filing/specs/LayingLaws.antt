-- What is laid for each partner is, one behind the other, what the file has.
use Rattle.std.specs.Prelude.{◌≡◌, refl, Bool, true, false, ℕ, ◌+◌, ◌-◌, ◌≤◌, ◌<◌, ltb, length}
use Rattle.std.proofs.Math.Path.{ap}
use Rattle.std.proofs.Common.{◌∙◌, arith, length-append, ltb-true, ltb-false}
use Rattle.std.proofs.Math.Option.{none}
use mathlib.Core.List.{List, [], ◌++◌, flat_map}
use Rattle.book.specs.Header.{register_section}
use Rattle.book.specs.Judged.{refusal_of}
use Rattle.book.specs.Book.{Book, book_of}
use Rattle.volumes.specs.Series.{Kind}
use Rattle.message.specs.Bytes.{partner_bytes}
use Rattle.emitter.specs.PartsInner.{file_head, file_end}
use Rattle.emitter.proofs.PartsLaws.{file-parts}
use Rattle.reports.specs.FileRows.{partners_of, file_of, file_text}
use Rattle.reports.specs.RegisteredInner.{Registered}
use Rattle.partners.specs.PartnersInner.{points_in, partner_column, no_partner, Next, partner_if, partners_from}
use Rattle.partners.specs.PartnersLaws.{points-in, partners-next, partners-end}
use Rattle.integers.proofs.ListsLaws.{flat_map-append}

-- ---- all partners

module _ (book : Book) (kind : Kind) (receiver : ℕ) where
  -- the next partner's, and then the others'
  pub partners-bytes : (low next : ℕ) → Next low (partner_column book.points kind receiver) next → next < no_partner
      → flat_map (partner_bytes kind) (partners_from book kind receiver low) ≡ flat_map (partner_bytes kind) (partner_if book kind receiver next) ++ flat_map (partner_bytes kind) (partners_from book kind receiver (next + 1))
  partners-bytes low next s h = ap (flat_map (partner_bytes kind)) (partners-next book kind receiver low next s h) ∙ flat_map-append (partner_bytes kind) (partner_if book kind receiver next) (partners_from book kind receiver (next + 1))

  pub partners-end-bytes : Registered book → (low next : ℕ) → Next low (partner_column book.points kind receiver) next → no_partner ≤ next → flat_map (partner_bytes kind) (partners_from book kind receiver low) ≡ []
  unfolding flat_map
  partners-end-bytes r low next s h = ap (flat_map (partner_bytes kind)) (partners-end book kind receiver r low next s h)

  pub partners-count : (low next : ℕ) → Next low (partner_column book.points kind receiver) next → next < no_partner
      → length (partners_from book kind receiver low) ≡ length (partner_if book kind receiver next) + length (partners_from book kind receiver (next + 1))
  partners-count low next s h = ap length (partners-next book kind receiver low next s h) ∙ length-append (partner_if book kind receiver next) (partners_from book kind receiver (next + 1))

-- the register's column is the book's
pub next-in : (bytes register : List ℕ) (kind : Kind) (receiver low next : ℕ) → refusal_of bytes ≡ none → register ≡ register_section bytes
    → Next low (partner_column (points_in register) kind receiver) next → Next low (partner_column (book_of bytes).points kind receiver) next
next-in bytes register kind receiver low next h e s = rw (← points-in bytes h, ← e) s

-- a scan that goes on comes nearer to its end
pub scan-falls : (column : List ℕ) (next later : ℕ) → next < no_partner → Next (next + 1) column later → no_partner - later < no_partner - next
scan-falls column next later h s = go (ltb later no_partner) refl
  where
    go : (b : Bool) → ltb later no_partner ≡ b → no_partner - later < no_partner - next
    go true e = omega (arith, (s.member (ltb-true later no_partner e)).1)
    go false e = omega (arith, ltb-false later no_partner e)

-- ---- the file

pub file-bytes : (book : Book) (kind : Kind) (receiver : ℕ) (id moment : List ℕ) (n : ℕ) → n ≡ length (partners_of book kind receiver)
    → file_head kind id moment receiver n ++ (flat_map (partner_bytes kind) (partners_of book kind receiver) ++ file_end kind) ≡ file_text book kind receiver id moment
unfolding file_text file_of
file-bytes book kind receiver id moment n e =
    let partners = partners_of book kind receiver in
    ap (λ (k : ℕ). file_head kind id moment receiver k ++ (flat_map (partner_bytes kind) partners ++ file_end kind)) e
    ∙ file-parts (file_of book kind receiver id moment)

-- ---- measured in another order: only the length counts

turned : (a b c : List ℕ) → length (b ++ (a ++ c)) ≡ length (a ++ (b ++ c))
turned a b c = omega (arith, length-append b (a ++ c), length-append a c, length-append a (b ++ c), length-append b c)

pub file-turned : (book : Book) (kind : Kind) (receiver : ℕ) (id moment : List ℕ) (n : ℕ) → n ≡ length (partners_of book kind receiver)
    → length (flat_map (partner_bytes kind) (partners_of book kind receiver) ++ (file_head kind id moment receiver n ++ file_end kind)) ≡ length (file_text book kind receiver id moment)
file-turned book kind receiver id moment n e =
    turned (file_head kind id moment receiver n) (flat_map (partner_bytes kind) (partners_of book kind receiver)) (file_end kind) ∙ ap length (file-bytes book kind receiver id moment n e)
