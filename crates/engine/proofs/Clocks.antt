-- The clock: which record is due, and its step.
use Rattle.std.specs.Prelude.{Option, Some, None, Err}
use mathlib.Core.Path.{◌≡◌, refl, sym, ap, ◌∙◌, subst}
use mathlib.Core.Bool.{Bool, true, false, not}
use mathlib.Core.List.{List, []}
use Prim.Native.Nat.{ℕ, ◌<◌}
use lib.ListN.{replicate}
use Rattle.octets.specs.Octets.{Bytes}
use Rattle.octets.specs.Scan.{first_below}
use Rattle.octets.proofs.Scan.{first-at}
use Rattle.record.specs.declared.Header.{Header}
use Rattle.record.specs.Layout.{groups_of}
use Rattle.table.specs.Table.{Table, decode_table, encode_table, recounted, slots, slot, checked, Looked}
use Rattle.table.proofs.Laws.{unsound}
use Rattle.table.proofs.Kept.{recounted-again}
use Rattle.rules.specs.declared.Given.{Given}
use Rattle.rules.specs.declared.Said.{Said}
use Rattle.rules.specs.Book.{expired, on_clock}
use Rattle.rules.specs.Given.{terms, call}
use Rattle.rule_laws.proofs.Slots.{clock-seated}
use Rattle.causes.specs.declared.Refusal.{Refusal}
use Rattle.answers.specs.Answers.{Report, Left, Leaves, ends, seating, refused, none_due, answered, finishes}
use Rattle.calls.specs.Calls.{clock_of, brings, due_slot, clock_step, expires_by, expires}
use Rattle.engine.specs.InSlot.{Held, given_by, DoesAt}
use Rattle.engine.proofs.Windows.{seat-done}
use Rattle.engine.proofs.Starts.{seated-terms, brought}

pub due-law : (T : Table) (n time : ℕ) (r : Option ℕ) → n ≡ slots T → r ≡ first_below (λ k. expired (slot T k) time) n → r ≡ due_slot T time
unfolding due_slot
due-law T n time r e q = q ∙ ap (first_below (λ k. expired (slot T k) time)) e

-- the due record is served
pub served : (t : List ℕ) (h : Header) (k : ℕ) (H : Held t h (Some k)) (u v a : List ℕ) (time : ℕ) (g : Given) (x : Said) (r : Report) → a ≡ (slot (decode_table t) k).address
    → g ≡ given_by h a time (replicate 32 0) false → DoesAt x u t k (on_clock (terms g (groups_of h)) (call g []) (slot (decode_table t) k))
    → (r ≡ answered x a) × (v ≡ encode_table (recounted (decode_table u)))
    → Leaves r v (finishes t (Some k) (clock_step (decode_table t) k time) (slot (decode_table t) k).address)
unfolding clock_step seating
served t h k H u v a time g x r ea eg d w =
    let T = seated-terms (given_by h a time (replicate 32 0) false) h (decode_table t) (Some k) k H.header (brought h a time (replicate 32 0) false) refl in
    let G : g ≡ given_by h (slot (decode_table t) k).address time (replicate 32 0) false = eg ∙ ap (λ (y : List ℕ). given_by h y time (replicate 32 0) false) ea in
    subst (λ (y : List ℕ). Leaves r v (finishes t (Some k) (clock_step (decode_table t) k time) y)) ea
    (seat-done t (Some k) k u v a x _ _ r refl (clock-seated _ _ _)
    ((λ i. on_clock (sym T i) (brings (slot (decode_table t) k).address (clock_of (sym H.header i) time) [] (replicate 32 0) false) (slot (decode_table t) k))
    ∙ (λ i. on_clock (terms (given_by h (ea i) time (replicate 32 0) false) (groups_of h)) (call (sym G i) []) (slot (decode_table t) k))
    ∙ (λ i. on_clock (terms (sym G i) (groups_of h)) (call g []) (slot (decode_table t) k))) d w)

pub expire-unsound : (t : List ℕ) (time : ℕ) (c : Refusal) (r : Report) → checked t ≡ Err c → r ≡ refused c → Leaves r t (expires t time)
unfolding expires
expire-unsound t time c r e er = let z = unsound t c e in rw z.0 (record { answer = er ∙ ap refused z.1; table = refl })

module _ (t : List ℕ) (time : ℕ) (h : Header) (L : Looked t h) (d : Option ℕ) (ed : d ≡ due_slot (decode_table t) time) where
  expires-by : (x : Option ℕ) → d ≡ x → expires t time ≡ expires_by x t time
  unfolding expires
  expires-by x e = let w : due_slot (decode_table t) time ≡ x = sym ed ∙ e in rw (L.whole, w) refl

  pub expire-none : (r : Report) → Bytes t → d ≡ None → r ≡ none_due → Leaves r t (expires t time)
  unfolding expires_by ends
  expire-none r y e er = subst (λ (l : Left). Leaves r t l) (sym (expires-by None e)) (record { answer = er; table = sym (recounted-again t y L.whole) })

  below : (k : ℕ) → d ≡ Some k → k < slots (decode_table t)
  unfolding due_slot
  below k e = (first-at _ (slots (decode_table t)) k (sym ed ∙ e)).0

  pub expire-held : (k : ℕ) → d ≡ Some k → Held t h (Some k)
  expire-held k e =
      record {
        seated = record { whole = L.whole; below = λ j z. let y : k ≡ j = cc in subst (λ (i : ℕ). i < slots (decode_table t)) y (below k e) };
        header = L.header;
      }

  pub expire-at : (k : ℕ) (r : Report) (u : List ℕ) → d ≡ Some k → Leaves r u (finishes t (Some k) (clock_step (decode_table t) k time) (slot (decode_table t) k).address) → Leaves r u (expires t time)
  unfolding expires_by
  expire-at k r u e l = subst (λ (l : Left). Leaves r u l) (sym (expires-by (Some k) e)) l
