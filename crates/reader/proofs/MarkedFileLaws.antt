-- Laws about a reading of a file that keeps marks: its root and moment, and what month and rows its partners give.
-- They stand for whoever reads so; the reader itself goes by `Reads` and `Filled`; MarkedFilledLaws leads from what its contracts say to these.
use Rattle.std.specs.Prelude.{◌≡◌, refl, ℕ, zero, suc, ◌+◌, length, take, Option, Some, None}
use Rattle.std.proofs.Common.{sym, ap, ◌∙◌, length-append, arith}
use mathlib.Core.List.{List, [], ◌∷◌, ◌++◌, map, flat_map}
use Rattle.std.proofs.lemmas.List.{length-map}
use Rattle.integers.specs.All.{All}
use Rattle.text.specs.Ascii.{bytes}
use Rattle.formats.specs.FormatLaws.{got-bad}
use Rattle.formats.specs.Combine.{strip}
use Rattle.formats.specs.Words.{words_parse}
use Rattle.formats.specs.Name.{name_byte, span}
use Rattle.formats.proofs.RunLaws.{run-map, run-seq, run-pre, run-post}
use Rattle.formats.proofs.MarksLaws.{Parsed, left}
use Rattle.formats.proofs.MarksLaws.{parsed, not_there}
use Rattle.cursor.specs.declared.Cursor.{Cursor}
use Rattle.cursor.specs.ReadsInner.{Reads}
use Rattle.cursor.proofs.MarkedReadsLaws.{reads-parsed}
use Rattle.kinds.specs.declared.Kind.{Kind}
use Rattle.kinds.specs.declared.Kind.TheVariants.{Toe01, Toe02, Toe03}
use Rattle.message.specs.Contents.{Observation, TimeSeries, Partner, File}
use Rattle.message.specs.Bytes.{opening, closing, root}
use Rattle.message.specs.Valid.{month_of, periods, first_of, IsFile}
use Rattle.message.specs.Group.{spread}
use Rattle.message.specs.Rows.{Row, series_rows, partner_rows, rows_of}
use Rattle.message.specs.Months.{after}
use Rattle.message.specs.Reading.{roots, kind_of}
use Rattle.message.proofs.FileForm.{kind_form, partners_form, file_body}
use Rattle.series_reader.proofs.MarkedItemsLaws.{unview}
use Rattle.series_reader.proofs.MarkedReadingInner.{folded}
use Rattle.series_reader.proofs.MarkedSeriesInner.{counting}
use Rattle.reader.proofs.MarkedPartnersInner.{adding}
use Rattle.reader.proofs.MarkedPlacesLaws.{Steps, placed}
use Rattle.series_reader.proofs.MarkedFillingInner.{Fills, rows_of_partner}
use Rattle.series_reader.proofs.MarkedFillingLaws.{began, fills-within}
use Rattle.reader.proofs.MarkedPartnersFillingLaws.{rows-filled}
use Rattle.reader.proofs.MarkedFileInner.{Filed, rows_of_parts}

-- ---- the root

words-first : (w : List ℕ) (ws : List (List ℕ)) (s : List ℕ) (m : Option ℕ) (q : ℕ) → Parsed (strip w) s m (Some q) tt → Parsed (words_parse (w ∷ ws)) s m (Some q) 0
unfolding words_parse
words-first w ws s None q h = absurd (got-bad (sym h.run.run))
words-first w ws s (Some p) q h = parsed (words_parse (w ∷ ws)) s p 0 q (rw h.run.run) h.within

words-rest : (w : List ℕ) (ws : List (List ℕ)) (s : List ℕ) (m r : Option ℕ) (n : ℕ) → Parsed (strip w) s m None tt → Parsed (words_parse ws) s m r n → Parsed (words_parse (w ∷ ws)) s m r (suc n)
unfolding words_parse
words-rest w ws s None None n h k = record { run = record { run = refl }; within = tt }
words-rest w ws s None (Some q) n h k = absurd (got-bad (sym k.run.run))
words-rest w ws s (Some p) None n h k = not_there (words_parse (w ∷ ws)) s p (suc n) (rw (h.run.run, k.run.run))
words-rest w ws s (Some p) (Some q) n h k = parsed (words_parse (w ∷ ws)) s p (suc n) q (rw (h.run.run, k.run.run)) k.within

pub root-first : (s : List ℕ) (m : Option ℕ) (q : ℕ) → Parsed (strip (opening (root Toe01))) s m (Some q) tt → Parsed kind_form.parse s m (Some q) Toe01
unfolding kind_form roots kind_of
root-first s m q h =
    let p = words-first (opening (root Toe01)) (opening (root Toe02) ∷ opening (root Toe03) ∷ []) s m q h in
    record { run = run-map kind_of p.run; within = p.within }

pub root-found : {c d : Cursor} → Reads (strip (bytes "<AggregatedToEVolumesForFSP>")) c d (Some tt) → Parsed kind_form.parse c.text.now (Some c.at) (Some d.at) Toe01
unfolding opening root bytes
root-found {c} {d} h = root-first c.text.now (Some c.at) d.at (reads-parsed tt h)

pub root-rest : (s : List ℕ) (m r : Option ℕ) (n : ℕ) → Parsed (strip (opening (root Toe01))) s m None tt → Parsed (words_parse (opening (root Toe02) ∷ opening (root Toe03) ∷ [])) s m r n
    → Parsed kind_form.parse s m r (kind_of (suc n))
unfolding kind_form roots
root-rest s m r n h k =
    let p = words-rest (opening (root Toe01)) (opening (root Toe02) ∷ opening (root Toe03) ∷ []) s m r n h k in
    record { run = run-map kind_of p.run; within = p.within }

pub kind-second : (n : ℕ) → n ≡ 0 → Toe02 ≡ kind_of (suc n)
unfolding kind_of
kind-second zero e = refl
kind-second (suc n) e = absurd (omega arith)

pub kind-third : (n : ℕ) → (n ≡ 0 → ⊥) → Toe03 ≡ kind_of (suc n)
unfolding kind_of
kind-third zero e = absurd (e refl)
kind-third (suc n) e = refl

-- ---- the file

file-parsed : {s : List ℕ} {a b c d e f g h i j l o : Option ℕ} {k : Kind} {receiver n : ℕ} {t : (ℕ × ℕ) × ℕ} {partners : List Partner} → Steps s a b c d e f g h i j l o k receiver n t
    → Parsed (partners_form k n).parse s j l partners → Parsed file_body.parse s (Some 0) o (k, (span name_byte (left s b), (take 29 (left s d), (receiver, (n, partners)))))
unfolding file_body
file-parsed p q =
    record {
      run = run-seq _ p.kind.run (run-pre (opening "TransactionID") p.before_id.run
          (run-seq _ (run-post _ p.id.run p.before_moment.run) (run-seq _ (run-post _ p.moment.run p.before_receiver.run)
          (run-seq _ (run-post _ p.receiver.run p.before_count.run) (run-seq _ (run-post _ p.count.run p.behind_count.run) (run-post _ q.run p.end.run))))));
      within = p.end.within;
    }

module _ {s : List ℕ} {a b c d e f g h i j l o : Option ℕ} {k : Kind} {receiver n : ℕ} {t : (ℕ × ℕ) × ℕ} (p : Steps s a b c d e f g h i j l o k receiver n t) where
  pub filed : Filed s o k receiver t b c d
  filed =
      let u = unview (folded adding ((0, 0), 0)) [] (partners_form k n).parse s j l t p.partners in
      record {
        count = n;
        partners = u.value;
        parsed = file-parsed p u.parsed;
        is = λ q e.
            let z = began (strip (closing (root k))) s l o tt q p.end e in
            u.is z.0 z.1.0;
        places = placed p;
      }

  pub filed-fills : {before after : List ℕ} → Fills (partners_form k n).parse (flat_map rows_of_partner) s j 0 before after → Fills file_body.parse rows_of_parts s (Some 0) 0 before after
  filed-fills fills =
      let u = unview (folded adding ((0, 0), 0)) [] (partners_form k n).parse s j l t p.partners in
      fills-within (partners_form k n).parse file_body.parse rows_of_parts (closing (root k)) u.value (k, (span name_byte (left s b), (take 29 (left s d), (receiver, (n, u.value)))))
      fills (file-parsed p u.parsed) u.parsed p.end (λ q e. sym (rows-filled u.value))

-- ---- month and rows of the partners

series-rows : (t : (ℕ × ℕ) × ℕ) (l : List TimeSeries) → (folded counting t l).1 ≡ t.1 + length (spread (map series_rows l))
unfolding folded spread flat_map
series-rows t [] = omega arith
series-rows t (s ∷ l) =
    let f : Observation → (ℕ × ℕ) × Observation = λ o. ((s.supply, s.delivery), o) in
    omega (arith, series-rows (counting t s) l, length-append (map f s.observations) (spread (map series_rows l)), length-map s.observations f)

pub partners-rows : (t : (ℕ × ℕ) × ℕ) (l : List Partner) → (folded adding t l).1 ≡ t.1 + length (rows_of l)
unfolding folded rows_of spread flat_map
partners-rows t [] = omega arith
partners-rows t (p ∷ l) =
    let f : (ℕ × ℕ) × Observation → Row = λ r. (p.number, r) in
    omega (arith, partners-rows (adding t p) l, series-rows t p.series, length-append (map f (partner_rows p).1) (rows_of l), length-map (partner_rows p).1 f)

series-month : (t : (ℕ × ℕ) × ℕ) (l : List TimeSeries) (r : List (ℕ × ℕ)) → after (folded counting t l).0 r ≡ after t.0 (map month_of l ++ r)
unfolding folded after
series-month t [] r = refl
series-month t (s ∷ l) r = series-month (counting t s) l r

pub partners-after : (t : (ℕ × ℕ) × ℕ) (l : List Partner) → (folded adding t l).0 ≡ after t.0 (periods l)
unfolding folded after periods flat_map
partners-after t [] = refl
partners-after t (p ∷ l) = partners-after (adding t p) l ∙ series-month t p.series (periods l)

after_same : (q : ℕ × ℕ) (l : List (ℕ × ℕ)) → All (λ x. x ≡ q) l → after q l ≡ q
unfolding after All
after_same q [] a = refl
after_same q (x ∷ l) a = ap (λ (y : ℕ × ℕ). after y l) a.0 ∙ after_same q l a.1

after_first : (l : List (ℕ × ℕ)) → All (λ x. x ≡ first_of l) l → after (0, 0) l ≡ first_of l
unfolding after All first_of
after_first [] a = refl
after_first (q ∷ l) a = after_same q l a.1

pub partners-month : (f : File) → IsFile f → (folded adding ((0, 0), 0) f.partners).0 ≡ first_of (periods f.partners)
partners-month f ok = partners-after ((0, 0), 0) f.partners ∙ after_first (periods f.partners) ok.same
