-- Writing a line: the bytes of its entries and values one behind another, and what is left to write after one entry. By induction on the
-- line, whose entries stand in the order of the variables. Assumes nothing.
use mathlib.Core.Path.{◌≡◌, refl, sym, ap, ap₂, ◌∙◌, subst}
use mathlib.Core.Option.{Option, none, some}
use mathlib.Core.List.{List, [], ◌∷◌, ◌++◌}
use Prim.Native.Nat.{ℕ, ◌+◌, ◌*◌, ◌≤◌, ◌<◌}
use native.Mathlib.Nat.{add-zero}
use native.Mathlib.Numerals.{add-one}
use native.Mathlib.Omega.{arith}
use lib.ListN.{length, get_or, take, drop, length-append, drop_of_length-le}
use lib.Seq.{sets, drop-cons, take_at}
use Rattle.terms.specs.Figures.{variables}
use Rattle.terms.specs.Term.{Term, size}
use Rattle.terms.specs.Table.{encode}
use Rattle.terms.specs.Listing.{Line}
use Rattle.terms.specs.Layout.{word, line_value_records, line_bytes, line_values}
use Rattle.terms.proofs.Table.{encode_length}
use Rattle.assignments.specs.declared.Span.{Span}
use Rattle.assignments.specs.declared.Entry.{Entry}
use Rattle.assignments.specs.declared.Entry.TheVariants.{Open, Assigned}
use Rattle.copying.proofs.Stores.{written_then}
use Rattle.listing.specs.Writers.{entry_records, entry_bytes, entry_values, SpanStands, EntryStands, LineStands, entries_records}
use Rattle.listing.specs.Writers.{WriteEntry, EntryWritten, WriteLine, WroteLine}

-- a line is its first entry and the others
pub line_entry : (k : ℕ) (o : Option Term) (l : Line) → line_bytes k (o ∷ l) ≡ entry_bytes k o ++ line_bytes (k + entry_records o) l
line_entry k none l = ap (λ (j : ℕ). word 0 (word 0 (line_bytes j l))) (sym (add-zero k))
line_entry k (some v) l = refl

pub values_entry : (o : Option Term) (l : Line) → line_values (o ∷ l) ≡ entry_values o ++ line_values l
values_entry none l = refl
values_entry (some v) l = refl

pub records_entry : (o : Option Term) (l : Line) → line_value_records (o ∷ l) ≡ entry_records o + line_value_records l
records_entry none l = omega arith
records_entry (some v) l = refl

-- lengths
pub entry_bytes_length : (k : ℕ) (o : Option Term) → length (entry_bytes k o) ≡ 4
entry_bytes_length k none = refl
entry_bytes_length k (some v) = refl

pub entry_values_length : (o : Option Term) → length (entry_values o) ≡ 4 * entry_records o
entry_values_length none = refl
entry_values_length (some v) = encode_length v

pub line_bytes_length : (k : ℕ) (l : Line) → length (line_bytes k l) ≡ 4 * length l
line_bytes_length k [] = refl
line_bytes_length k (none ∷ l) = omega (arith, line_bytes_length k l)
line_bytes_length k (some v ∷ l) = omega (arith, line_bytes_length (k + size v) l)

pub line_values_length : (l : Line) → length (line_values l) ≡ 4 * line_value_records l
line_values_length [] = refl
line_values_length (none ∷ l) = line_values_length l
line_values_length (some v ∷ l) = omega (arith, length-append (encode v) (line_values l), encode_length v, line_values_length l)

-- what an entry is where it is open and where it is assigned
pub open_entry : (s : List ℕ) (e : Entry) (o : Option Term) → EntryStands s e o → e ≡ Open → o ≡ none
unfolding EntryStands
open_entry s e o x p = go o (subst (λ (d : Entry). EntryStands s d o) p x)
  where
    go : (o : Option Term) → EntryStands s Open o → o ≡ none
    go none y = refl
    go (some v) y = absurd y

pub record AssignedAs (s : List ℕ) (x : Span) (o : Option Term) : Type 0 where
  pub value : Term
  pub is : o ≡ some value
  pub stands : SpanStands s x value
  pub records : x.count ≡ entry_records o
  pub within : 4 * (x.first + x.count) ≤ length s
  pub bytes : take (4 * x.count) (drop (4 * x.first) s) ≡ entry_values o

pub assigned_entry : (s : List ℕ) (e : Entry) (o : Option Term) (x : Span) → EntryStands s e o → e ≡ Assigned x → AssignedAs s x o
unfolding EntryStands
assigned_entry s e o x h p = go o (subst (λ (d : Entry). EntryStands s d o) p h)
  where
    go : (o : Option Term) → EntryStands s (Assigned x) o → AssignedAs s x o
    go none y = absurd y
    go (some v) y = record {
      value = v;
      is = refl;
      stands = y;
      records = y.count;
      within = omega (arith, y.part.within, y.count);
      bytes = ap₂ (λ (n : ℕ) (l : List ℕ). take (4 * n) l) y.count y.part.bytes
          ∙ take_at (encode v) y.part.rest (4 * size v) (encode_length v);
    }

-- one entry written
module _ (s : List ℕ) (e : Entry) (lines : List ℕ) (at : ℕ) (values : List ℕ) (first : ℕ) where
  pub wrote_open : (p q : List ℕ) → e ≡ Open → p ≡ sets lines at (word 0 []) → q ≡ sets p (at + 2) (word 0 [])
      → EntryWritten s e lines at values first q values first
  wrote_open p q n b d = record {
    records = λ o x. rw (open_entry s e o x n) (sym (add-zero first));
    bytes = λ o x. rw (open_entry s e o x n) (written_then (word 0 []) (word 0 []) lines p q at (at + 2) b d refl);
    copied = λ o x. rw (open_entry s e o x n) refl;
  }

  pub wrote_assigned :
      (x : Span) (p q part w : List ℕ) → e ≡ Assigned x → p ≡ sets lines at (word first []) → q ≡ sets p (at + 2) (word x.count [])
      → part ≡ take (4 * x.count) (drop (4 * x.first) s)
      → w ≡ sets values (4 * first) part → EntryWritten s e lines at values first q w (first + x.count)
  wrote_assigned x p q part w n b d g k = record {
    records = λ o h. ap (first +◌) (assigned_entry s e o x h n).records;
    bytes = λ o h. let a = assigned_entry s e o x h n in
        written_then (word first []) (word x.count []) lines p q at (at + 2) b d refl
        ∙ ap (λ (j : ℕ). sets lines at (word first (word j []))) a.stands.count
        ∙ ap (λ (o : Option Term). sets lines at (entry_bytes first o)) (sym a.is);
    copied = λ o h. k ∙ ap (sets values (4 * first)) (g ∙ (assigned_entry s e o x h n).bytes);
  }

-- the entries of a line, the first of those that are left
pub entries_next : (a : List Entry) (i : ℕ) → i < length a → drop i a ≡ get_or a i Open ∷ drop (i + 1) a
entries_next a i h = drop-cons a i Open h ∙ ap (λ (j : ℕ). get_or a i Open ∷ drop j a) (sym (add-one i))

pub record NextEntry (s : List ℕ) (a : List Entry) (i : ℕ) (l : Line) : Type 0 where
  pub entry : Option Term
  pub rest : Line
  pub is : l ≡ entry ∷ rest
  pub first : EntryStands s (get_or a i Open) entry
  pub others : LineStands s (drop (i + 1) a) rest

pub next : (s : List ℕ) (a : List Entry) (i : ℕ) (l : Line) → i < length a → LineStands s (drop i a) l → NextEntry s a i l
unfolding LineStands
next s a i l h x = go l (subst (λ (b : List Entry). LineStands s b l) (entries_next a i h) x)
  where
    go : (l : Line) → LineStands s (get_or a i Open ∷ drop (i + 1) a) l → NextEntry s a i l
    go [] y = absurd y
    go (o ∷ l) y = record { entry = o; rest = l; is = refl; first = y.0; others = y.1 }

pub no_next : (s : List ℕ) (a : List Entry) (i : ℕ) (l : Line) → length a ≤ i → LineStands s (drop i a) l → l ≡ []
unfolding LineStands
no_next s a i l h x = go l (subst (λ (b : List Entry). LineStands s b l) (drop_of_length-le a h) x)
  where
    go : (l : Line) → LineStands s [] l → l ≡ []
    go [] y = refl
    go (o ∷ l) y = absurd y

-- a line written entry by entry
module _ (s : List ℕ) (a : List Entry) (i : ℕ) (lines : List ℕ) (at : ℕ) (values : List ℕ) (first : ℕ) where
  wrote_none : length a ≤ i → WroteLine s (drop i a) lines at values first lines values first
  wrote_none h = record {
    records = λ l x. rw (no_next s a i l h x) (sym (add-zero first));
    bytes = λ l x. rw (no_next s a i l h x) refl;
    copied = λ l x. rw (no_next s a i l h x) refl;
  }

  wrote_next :
      (p w q x : List ℕ) (m r : ℕ) → i < length a → EntryWritten s (get_or a i Open) lines at values first p w m
      → WroteLine s (drop (i + 1) a) p (at + 4) w m q x r
      → WroteLine s (drop i a) lines at values first q x r
  wrote_next p w q x m r h y z = record { records = λ l n. (go l n).0; bytes = λ l n. (go l n).1; copied = λ l n. (go l n).2 }
    where
      go : (l : Line) → LineStands s (drop i a) l
          → (r ≡ first + line_value_records l) × (q ≡ sets lines at (line_bytes first l)) × (x ≡ sets values (4 * first) (line_values l))
      go l n =
          let k = next s a i l h n in
          let o = k.entry in
          let e = y.records o k.first in
          rw k.is (
            omega (arith, e, z.records k.rest k.others, records_entry o k.rest),
            written_then (entry_bytes first o) (line_bytes (first + entry_records o) k.rest) lines p q at (at + 4) (y.bytes o k.first)
                (z.bytes k.rest k.others ∙ ap (λ (j : ℕ). sets p (at + 4) (line_bytes j k.rest)) e)
                (ap (at +◌) (sym (entry_bytes_length first o)))
                ∙ ap (sets lines at) (sym (line_entry first o k.rest)),
            written_then (entry_values o) (line_values k.rest) values w x (4 * first) (4 * m) (y.copied o k.first)
                (z.copied k.rest k.others)
                (omega (arith, e, entry_values_length o))
                ∙ ap (sets values (4 * first)) (sym (values_entry o k.rest)),
          )

  entry_of : WriteLine s a i lines at values first → i < variables → WriteEntry s (get_or a i Open) lines at values first
  entry_of x h =
      let k = next s a i x.line (omega (arith, x.entries)) x.stands in
      record {
        entry = k.entry;
        stands = k.first;
        room = omega (arith, x.room);
        values_room = omega (arith, x.values_room, ap line_value_records k.is, records_entry k.entry k.rest);
        values_most = x.values_most;
      }

  others_of :
      (p w : List ℕ) (m : ℕ) → WriteLine s a i lines at values first → i < variables
      → EntryWritten s (get_or a i Open) lines at values first p w m
      → length p ≡ length lines → length w ≡ length values
      → WriteLine s a (i + 1) p (at + 4) w m
  others_of p w m x h y e f =
      let k = next s a i x.line (omega (arith, x.entries)) x.stands in
      record {
        line = k.rest;
        stands = k.others;
        upto = omega arith;
        room = omega (arith, x.room);
        values_room =
            omega (
              arith,
              x.values_room,
              ap line_value_records k.is,
              records_entry k.entry k.rest,
              y.records k.entry
                  k.first,
            );
        values_most = omega (arith, x.values_most);
        entries = x.entries;
      }

-- a line of which the entries below i are written: the others can be, and then the line is
pub record Writing (s : List ℕ) (a : List Entry) (lines : List ℕ) (at : ℕ) (values : List ℕ) (first : ℕ) (lines_now values_now : List ℕ)
    (next i : ℕ) : Type 0 where
  pub left : WriteLine s a i lines_now (at + 4 * i) values_now next
  pub whole : (p w : List ℕ) (r : ℕ) → WroteLine s (drop i a) lines_now (at + 4 * i) values_now next p w r
      → WroteLine s a lines at values first p w r
  pub same_lines : length lines_now ≡ length lines
  pub same_values : length values_now ≡ length values

module _ (s : List ℕ) (a : List Entry) (lines : List ℕ) (at : ℕ) (values : List ℕ) (first : ℕ) where
  module _ (now then : List ℕ) (next i : ℕ) (x : Writing s a lines at values first now then next i) where
    pub writing_entry : i < variables → WriteEntry s (get_or a i Open) now (at + 4 * i) then next
    writing_entry h = entry_of s a i now (at + 4 * i) then next x.left h

    pub writing_more :
        (p w : List ℕ) (m : ℕ) → i < variables → EntryWritten s (get_or a i Open) now (at + 4 * i) then next p w m → length p ≡ length now
        → length w ≡ length then
        → Writing s a lines at values first p w m (i + 1)
    writing_more p w m h y f g =
        let e : at + 4 * i + 4 ≡ at + 4 * (i + 1) = omega arith in
        record {
          left = subst (λ (k : ℕ). WriteLine s a (i + 1) p k w m) e (others_of s a i now (at + 4 * i) then next p w m x.left h y f g);
          whole = λ q v r z.
              x.whole q v r
              (wrote_next s a i now (at + 4 * i) then next p w q v m r (omega (arith, x.left.entries)) y
              (subst (λ (k : ℕ). WroteLine s (drop (i + 1) a) p k w m q v r) (sym e) z));
          same_lines = f ∙ x.same_lines;
          same_values = g ∙ x.same_values;
        }

    pub writing_done : variables ≤ i → WroteLine s a lines at values first now then next
    writing_done h = x.whole now then next (wrote_none s a i now (at + 4 * i) then next (omega (arith, x.left.entries)))

-- the records that entries say
pub total_line : (s : List ℕ) (a : List Entry) (l : Line) → LineStands s a l → entries_records a ≡ line_value_records l
unfolding LineStands EntryStands
total_line s [] [] x = refl
total_line s [] (o ∷ l) x = absurd x
total_line s (e ∷ a) [] x = absurd x
total_line s (Open ∷ a) (none ∷ l) x = omega (arith, total_line s a l x.1)
total_line s (Open ∷ a) (some v ∷ l) x = absurd x.0
total_line s (Assigned y ∷ a) (none ∷ l) x = absurd x.0
total_line s (Assigned y ∷ a) (some v ∷ l) x = ap₂ ◌+◌ x.0.count (total_line s a l x.1)
