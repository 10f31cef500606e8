-- A file, from the readings of its parts up to the tag before the counter of partners.
use Rattle.std.specs.Prelude.{◌++◌, List, ℕ, Some, None}
use Rattle.formats.specs.Format.{Res}
use Rattle.formats.specs.Combine.{strip, seq_parse, post_parse}
use Rattle.formats.specs.Exactly.{exactly_parse, fixed_parse}
use Rattle.formats.specs.Name.{name_byte, name_parse}
use Rattle.cursor.specs.declared.Cursor.{Cursor}
use Rattle.cursor.specs.ReadsInner.{Reads}
use Rattle.cursor.proofs.ReadsLaws.{reads-map, reads-map-stop, reads-pre, reads-seq, reads-seq-stop₂, reads-post}
use Rattle.kinds.specs.declared.Kind.{Kind}
use Rattle.message.specs.Contents.{Partner}
use Rattle.message.specs.Bytes.{opening, ending, closing, counter, root}
use Rattle.message.specs.Valid.{is_moment}
use Rattle.message.specs.Reading.{kind_parse, plain_parse, partners_parse, file_parse, file_of}

-- the counter of partners, and they
abbrev pub counted_partners : Kind → List ℕ → Res (ℕ × List Partner)
counted_partners k = seq_parse (post_parse plain_parse (λ n. ending (counter k))) (λ n. post_parse (partners_parse k n) (λ l. closing (root k)))

module _ {a b c d e f g h i : Cursor} {k : Kind} {id moment : List ℕ} {receiver : ℕ} (kind : Reads kind_parse a b (Some k)) (before_id : Reads (strip (opening "TransactionID")) b c (Some tt))
    (name : Reads (name_parse name_byte 1 36 60) c d (Some id)) (before_moment : Reads (strip (ending "TransactionID" ++ opening "MessageCreateDateTime")) d e (Some tt))
    (moment_read : Reads (exactly_parse 29 is_moment) e f (Some moment)) (before_receiver : Reads (strip (closing "MessageCreateDateTime" ++ opening "ReceiverID")) f g (Some tt))
    (receiver_read : Reads (fixed_parse 10) g h (Some receiver)) (before_counter : Reads (strip (closing "ReceiverID" ++ opening (counter k))) h i (Some tt)) where
  pub no-partners : {j : Cursor} → Reads (counted_partners k) i j None → Reads file_parse a j None
  unfolding file_parse
  no-partners r =
      reads-map-stop _ (reads-seq-stop₂ _ kind (reads-pre _ before_id (reads-seq-stop₂ _ (reads-post _ name before_moment) (reads-seq-stop₂ _ (reads-post _ moment_read before_receiver)
      (reads-seq-stop₂ _ (reads-post _ receiver_read before_counter) r)))))

  pub all-parts : {j : Cursor} {p : ℕ × List Partner} → Reads (counted_partners k) i j (Some p) → Reads file_parse a j (Some (file_of (k, (id, (moment, (receiver, p))))))
  unfolding file_parse
  all-parts r =
      reads-map _ (reads-seq _ kind (reads-pre _ before_id (reads-seq _ (reads-post _ name before_moment) (reads-seq _ (reads-post _ moment_read before_receiver)
      (reads-seq _ (reads-post _ receiver_read before_counter) r)))))
