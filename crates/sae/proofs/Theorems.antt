-- A call that returns a number other than 0 leaves every lent octet as it was: the table, the buffer, the answer, the parts, the length written, the
-- number asked for and the target of a move. And what the reader hands back of a moved table.
use mathlib.Core.Path.{◌≡◌, refl, ap, ◌∙◌}
use mathlib.Core.Bool.{Bool, true, false, not}
use mathlib.Core.List.{List}
use Prim.Native.Nat.{ℕ}
use native.Mathlib.Omega.{arith}
use lib.ListN.{length}
use Rattle.std.specs.Prelude.{if◌then◌else◌, Option, Some, None, Result, Ok, Err}
use Rattle.record.specs.Layout.{groups_of}
use Rattle.record.specs.SettingsOctets.{settings_of, reserved_zero}
use Rattle.rules.specs.Book.{◌is◌, Step}
use Rattle.message.specs.View.{view}
use Rattle.record.specs.declared.Form.{Form}
use Rattle.table.specs.Table.{Table, decode_table, sound}
use Rattle.initial.specs.Initial.{slots_for, initial_ok, initial_table}
use Rattle.good_links.specs.GoodLinks.{filled, fills}
use Rattle.answers.specs.Outcome.{Outcome}
use Rattle.answers.specs.Outcome as outcome
use Rattle.causes.specs.declared.Refusal.{Refusal}
use Rattle.causes.specs.declared.Refusal.TheVariants as why
use Rattle.answers.specs.Answers.{Report, Left, ends, returned, refused, none_due, refuse, said, quiet, seating, finish_at, finishes, turned}
use Rattle.calls.specs.Calls.{initializes, initializes_from, initiates, kills, receives, due_slot, expires_by, expires}
use Rattle.writer.specs.Writer.{LeftOut, writes_parts, writes_record}
use Rattle.writer.proofs.Theorems.{parts-refused, record-refused}
use Rattle.moves.specs.declared.Direction.{Direction}
use Rattle.moves.specs.Moves.{source_form, target_form, moved, SameContents, is_of, hindered, hindrance, fitting, Moved, refuse_move, moves}
use Rattle.sae.specs.Interface.{answer_left, Returns, read_number, read_parts, parts_octets, Reads, wrote_number, written_left, Writes, Asks, fill_number, Fills, MovesTo}

-- ---- calls

-- a refusal leaves the table
pub record Refuses (t : List ℕ) (l : Left) : Type 0 where
  pub leaves : (c : Refusal) → l.answer.outcome ≡ outcome.Refused c → l.table ≡ t

unchanged : (t : List ℕ) (a : Report) → Refuses t (record { answer = a; table = t })
unchanged t a = record { leaves = λ c e. refl }

finish-refuses : (t a : List ℕ) (f : Option ℕ) (s : Step) → Refuses t (finishes t f s a)
unfolding finishes finish_at ends said
finish-refuses t a f s = go s.refused (seating (decode_table t) f)
  where
    go : (b : Bool) (x : Option ℕ) → Refuses t (if b then refuse t why.Full else finish_at x t s a)
    go true x = unchanged t _
    go false (Some k) = record { leaves = λ c e. let z : ◌≡◌ {A = ℕ} 0 1 = cc in absurd (omega arith) }
    go false None = record { leaves = λ c e. let z : ◌≡◌ {A = ℕ} 0 1 = cc in absurd (omega arith) }

turned-refuses : (w : Result (Option ℕ) Refusal) (g : Option ℕ → Step) (t a : List ℕ) → Refuses t (turned w g t a)
unfolding turned
turned-refuses (Err c) g t a = unchanged t _
turned-refuses (Ok f) g t a = finish-refuses t a f (g f)

pub initialize-refuses : (f : Form) (t own s : List ℕ) → Refuses t (initializes_from f t own s)
unfolding initializes_from initializes ends quiet
initialize-refuses f t own s = go (reserved_zero s) (initial_ok f (settings_of s) own (length t))
  where
    go : (a b : Bool) → Refuses t (if a then (if b then ends (quiet own) (initial_table f (settings_of s) own (slots_for f (length t))) else record { answer = refused why.Settings; table = t }) else record { answer = refused why.Settings; table = t })
    go true true = record { leaves = λ c e. let z : ◌≡◌ {A = ℕ} 0 1 = cc in absurd (omega arith) }
    go true false = unchanged t _
    go false b = unchanged t _

pub initiate-refuses : (t a : List ℕ) (time : ℕ) (fresh : List ℕ) → Refuses t (initiates t a time fresh)
unfolding initiates
initiate-refuses t a time fresh = turned-refuses _ _ t a

pub kill-refuses : (t a : List ℕ) → Refuses t (kills t a)
unfolding kills
kill-refuses t a = turned-refuses _ _ t a

pub receive-refuses : (t a : List ℕ) (time : ℕ) (frame fresh expected : List ℕ) (verdict : ℕ) → Refuses t (receives t a time frame fresh expected verdict)
unfolding receives
receive-refuses t a time frame fresh expected verdict = turned-refuses _ _ t a

due-refuses : (t : List ℕ) (time : ℕ) (f : Option ℕ) → Refuses t (expires_by f t time)
unfolding expires_by ends none_due
due-refuses t time None = record { leaves = λ c e. let z : ◌≡◌ {A = ℕ} 0 1 = cc in absurd (omega arith) }
due-refuses t time (Some k) = finish-refuses t _ (Some k) _

pub expire-refuses : (t : List ℕ) (time : ℕ) → Refuses t (expires t time)
unfolding expires
expire-refuses t time = go (sound t) (due_slot (decode_table t) time)
  where
    go : (b : Bool) (f : Option ℕ) → Refuses t (if b then expires_by f t time else record { answer = refused why.Unsound; table = t })
    go true f = due-refuses t time f
    go false f = unchanged t _

-- nothing that was lent is changed
pub record Untouched (t u given answer : List ℕ) : Type 0 where
  pub table : u ≡ t
  pub answer_kept : answer ≡ given

pub call-refused : (t u answer given : List ℕ) (r : ℕ) (l : Left) → Refuses t l → Returns r u answer given l → (r ≡ 0 → ⊥) → Untouched t u given answer
unfolding answer_left
call-refused t u answer given r l f e d = go l.answer.outcome refl
  where
    go : (o : Outcome) → l.answer.outcome ≡ o → Untouched t u given answer
    go outcome.Done q = absurd (d (e.returns ∙ ap returned q))
    go outcome.NoneDue q = absurd (d (e.returns ∙ ap returned q))
    go (outcome.Refused c) q = record { table = e.leaves ∙ f.leaves c q; answer_kept = e.answers ∙ rw q }

-- ---- the reader

pub read-refused : (r : ℕ) (parts given t frame : List ℕ) → Reads r parts given t frame → (r ≡ 0 → ⊥) → parts ≡ given
unfolding read_number read_parts
read-refused r parts given t frame e d = go (sound t) ((view (groups_of (decode_table t).header) frame).sequence is 0) e.returns e.leaves
  where
    go : (b m : Bool) → r ≡ (if b then (if m then 7 else 0) else 2)
        → parts ≡ (if b then (if m then given else parts_octets (view (groups_of (decode_table t).header) frame) frame) else given) → parts ≡ given
    go false m n p = p
    go true true n p = p
    go true false n p = absurd (d n)

-- ---- the writers

pub record Unwritten (out left : List ℕ) (given written : ℕ) : Type 0 where
  pub buffer : left ≡ out
  pub length_kept : written ≡ given

write-refused : (l : LeftOut) (out left : List ℕ) (r written given : ℕ) → ((c : Refusal) → l.answer ≡ Err c → l.out ≡ out) → Writes r left written given l → (r ≡ 0 → ⊥) → Unwritten out left given written
write-refused l out left r written given f e d = go l.answer refl
  where
    go : (w : Result ℕ Refusal) → l.answer ≡ w → Unwritten out left given written
    go (Ok n) q = absurd (d (e.returns ∙ ap wrote_number q))
    go (Err c) q = record { buffer = e.leaves ∙ f c q; length_kept = e.counts ∙ ap (λ (w : Result ℕ Refusal). written_left w given) q }

pub write-parts-refused : (t : List ℕ) (q x g n : ℕ) (token rest out left : List ℕ) (r written given : ℕ) → Writes r left written given (writes_parts t q x g n token rest out) → (r ≡ 0 → ⊥) → Unwritten out left given written
write-parts-refused t q x g n token rest out left r written given e d = write-refused _ out left r written given (parts-refused t q x g n token rest out) e d

pub write-record-refused : (t a : List ℕ) (q : ℕ) (value out left : List ℕ) (r written given : ℕ) → Writes r left written given (writes_record t a q value out) → (r ≡ 0 → ⊥) → Unwritten out left given written
write-record-refused t a q value out left r written given e d = write-refused _ out left r written given (record-refused t a q value out) e d

-- ---- the lookups

pub ask-refused : (a : Result ℕ Refusal) (r left given : ℕ) → Asks r left given a → (r ≡ 0 → ⊥) → left ≡ given
ask-refused (Ok n) r left given e d = absurd (d e.returns)
ask-refused (Err c) r left given e d = e.leaves

-- ---- the fill

pub fill-refused : (r : ℕ) (left given : List ℕ) → Fills r left given → (r ≡ 0 → ⊥) → left ≡ given
unfolding fill_number fills
fill-refused r left given e d = go (sound (filled given)) e.returns e.leaves
  where
    go : (b : Bool) → r ≡ (if b then 0 else 2) → left ≡ (if b then filled given else given) → left ≡ given
    go true n l = absurd (d n)
    go false n l = l

-- ---- the moves

pub move-refused : (d : Direction) (source target left : List ℕ) (r : ℕ) → MovesTo r left (moves d source target) → (r ≡ 0 → ⊥) → left ≡ target
unfolding moves
move-refused d source target left r e n =
    go (is_of (source_form d) source) (hindered d (decode_table source).header) (fitting (target_form d) (decode_table source).header target) e.returns e.leaves
  where
    come : (x y z : Bool) → Moved
    come x y z =
        if not x then refuse_move target why.Unsound
        else if y then refuse_move target (hindrance d)
        else if not z then refuse_move target why.Target
        else record { answer = outcome.Done; target = moved (target_form d) source }

    go : (x y z : Bool) → r ≡ returned (come x y z).answer → left ≡ (come x y z).target → left ≡ target
    go false y z q l = l
    go true true z q l = l
    go true false false q l = l
    go true false true q l = absurd (n q)

-- A MOVED TABLE reads every frame as the unmoved one does: the same number, and the same octets of the parts
same-groups : (t u : List ℕ) → SameContents t u → groups_of (decode_table u).header ≡ groups_of (decode_table t).header
same-groups t u S = ap (λ (T : Table). groups_of T.header) S.table

pub read_alike : (t u frame given : List ℕ) → SameContents t u → (read_number u frame ≡ read_number t frame) × (read_parts u frame given ≡ read_parts t frame given)
unfolding read_number read_parts
read_alike t u frame given S = let g = same-groups t u S in (rw (S.sound₁, S.sound₂, g), rw (S.sound₁, S.sound₂, g))
