-- How many good links: the question is answered exactly where a sound table starts with the octets handed over, and on a sound table with the count over all
-- records.
use Rattle.std.proofs.Common.{◌≡◌, ℕ, Bool, true, false, not, ◌⊎◌, List, length, take, sym, ap, ◌∙◌, inl, inr, arith, eq-eqb, ne_eqb, Ok, Err}
use borrow.Author.Tests.{not-true, not-false}
use Rattle.octets.specs.Octets.{Bytes}
use Rattle.octets.proofs.Scan.{cases}
use Rattle.record.specs.declared.Header.{Header}
use Rattle.record.specs.Layout.{decode_header}
use Rattle.table.specs.Table.{decode_table, good_count, sound}
use Rattle.good_links.specs.GoodLinks.{Starts, header_possible, possible}
use Rattle.good_links.proofs.Possible.{starts-possible, possible-starts, sound-starts, front-good}
use Rattle.causes.specs.declared.Refusal.TheVariants as why
use Rattle.lookups.specs.Lookups.{asks_good}

-- ---- what `good_links` shows

pub good-other : (s : List ℕ) → (length s ≡ 32 → ⊥) → Err why.Unsound ≡ asks_good s
unfolding asks_good possible
good-other s d = rw (ne_eqb (length s) 32 d)

module _ (s : List ℕ) (l : length s ≡ 32) (h : Header) (e : h ≡ (decode_table s).header) (b : Bool) (eb : b ≡ header_possible h) where
  possible-is : possible s ≡ b
  unfolding possible decode_table
  possible-is = rw (eq-eqb (length s) 32 l) (ap header_possible (sym e) ∙ sym eb)

  pub good-refused : not b ≡ true → Err why.Unsound ≡ asks_good s
  unfolding asks_good
  good-refused q = rw (possible-is ∙ not-true b q)

  pub good-answered : not b ≡ false → Ok h.counts.good ≡ asks_good s
  unfolding asks_good decode_table
  good-answered q = rw (possible-is ∙ not-false b q) (ap (λ (g : Header). Ok g.counts.good) e)

-- ---- THE QUESTION IS REFUSED EXACTLY WHERE NO SOUND TABLE STARTS WITH THE OCTETS

answered : (s : List ℕ) → possible s ≡ true → asks_good s ≡ Ok (decode_header s).counts.good
unfolding asks_good
answered s p = rw p

refused : (s : List ℕ) → possible s ≡ false → asks_good s ≡ Err why.Unsound
unfolding asks_good
refused s p = rw p

not-both : (n : ℕ) {X : Type 0} → Ok n ≡ Err why.Unsound → X
not-both n e = let z : ◌≡◌ {A = ℕ} 0 1 = cc in absurd (omega arith)

-- where one does, the answer is the field
pub starts-answered : (s : List ℕ) → Starts s → asks_good s ≡ Ok (decode_header s).counts.good
starts-answered s S = answered s (starts-possible s S)

-- where none does, 2
pub none-refused : (s : List ℕ) → Bytes s → ¬ Starts s → asks_good s ≡ Err why.Unsound
none-refused s b n = go (cases (possible s))
  where
    go : (possible s ≡ true) ⊎ (possible s ≡ false) → asks_good s ≡ Err why.Unsound
    go (inl p) = absurd (n (possible-starts s b p))
    go (inr p) = refused s p

pub refused_none : (s : List ℕ) → asks_good s ≡ Err why.Unsound → ¬ Starts s
refused_none s e S = not-both _ (sym (starts-answered s S) ∙ e)

-- ---- ON A SOUND TABLE the answer is the count over all records

pub sound-answered : (t : List ℕ) → Bytes t → sound t ≡ true → asks_good (take 32 t) ≡ Ok (good_count (decode_table t))
sound-answered t b s = answered (take 32 t) (sound-starts t b s) ∙ ap Ok (front-good t b s)
