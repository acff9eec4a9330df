-- Octets that a printer sent and that read as a status 0 Commit in a listed group are its record's Commit: group and stored commit are the run's own.
use Rattle.std.specs.Prelude.{Some}
use mathlib.Core.Path.{◌≡◌, sym, ap, ◌∙◌, subst}
use mathlib.Core.Bool.{true, false}
use mathlib.Core.List.{List, []}
use Prim.Native.Nat.{ℕ, ◌+◌}
use native.Mathlib.Omega.{arith}
use lib.Dec.{eqb, ltb}
use lib.ListN.{length, take}
use borrow.Author.Tests.{eqb-true}
use Rattle.protocol.specs.Model.{Commit}
use Rattle.octets.proofs.Scan.{clash}
use Rattle.groups.specs.Groups.{listed, commit_length, stored}
use Rattle.frame.specs.Frame.{read_body, group_of, commit_of, is_offer, body, commit_body}
use Rattle.frame.specs.Writing.{Drawn, Octets, Outside, draw_commit, draw_token_request, draw_group_refusal, draw_confirm, draw_commits, draw_confirms, parts_body}
use Rattle.frame.specs.declared.Body.TheVariants as body_is
use Rattle.frame.proofs.Laws.{length-body}
use Rattle.frame.proofs.Shapes.{commit-shape}
use Rattle.frame.proofs.RoundTrip.{body-third, commit_back, token-request-no-offer, group-refusal-no-offer, confirm-no-offer}
use Rattle.rule_laws.proofs.Keeps.{known-fits}
use Rattle.record.specs.declared.Peer.{Peer}
use Rattle.rules.specs.Book.{◌is◌, ◌isnt◌}
use Rattle.writer.specs.Writer.{record_commit, record_confirm, record_body}
use Rattle.agreement.proofs.Rules.{either}
use Rattle.agreement.proofs.Shows.{Padded}
use Rattle.agreement.proofs.Stock.{Listing}
use Rattle.agreement.proofs.Acts.{own_commit, commit_is}

pub outside-not : {X : Type 0} {s : List ℕ} → Outside ≡ Octets s → X
outside-not e = let z : ◌≡◌ {A = ℕ} 0 1 = cc in absurd (omega arith)

octets-is : {a s : List ℕ} → Octets a ≡ Octets s → a ≡ s
octets-is e = cc

module _ (gs s : List ℕ) (g n : ℕ) (r : read_body gs s ≡ Some (body_is.Commit g n)) where
  offers : is_offer (read_body gs s) ≡ true
  offers = rw r

  no-offer : (a : List ℕ) → is_offer (read_body gs a) ≡ false → Octets a ≡ Octets s → ⊥
  no-offer a f e = clash (subst (λ (x : List ℕ). is_offer (read_body gs x) ≡ true) (sym (octets-is e)) offers) f

  -- a 76 or 77 from its parts
  pub parts-not : (ls : List ℕ) (q x k m : ℕ) (t : List ℕ) → eqb x 0 ≡ false → parts_body ls q x k m t [] ≡ Octets s → ⊥
  unfolding parts_body draw_commits draw_confirms draw_token_request draw_group_refusal
  parts-not ls q x k m t z =
      either (λ (d : Drawn). d ≡ Octets s → ⊥) (eqb q 1)
      (λ e. either (λ (d : Drawn). d ≡ Octets s → ⊥) (eqb m 0)
      (λ e. either (λ (d : Drawn). d ≡ Octets s → ⊥) (eqb x 0) (λ w. absurd (clash w z))
      (λ w. either (λ (d : Drawn). d ≡ Octets s → ⊥) (eqb x 76)
      (λ w. either (λ (d : Drawn). d ≡ Octets s → ⊥) (eqb (length t) 0) (λ w. outside-not)
      (λ w. either (λ (d : Drawn). d ≡ Octets s → ⊥) (ltb 256 (length t)) (λ w. outside-not) (λ w. no-offer _ (token-request-no-offer gs k t))))
      (λ w. either (λ (d : Drawn). d ≡ Octets s → ⊥) (eqb x 77)
      (λ w. either (λ (d : Drawn). d ≡ Octets s → ⊥) (eqb (length t) 0) (λ w. no-offer _ (group-refusal-no-offer gs k)) (λ w. outside-not))
      (λ w. outside-not))))
      (λ e. outside-not))
      (λ e. either (λ (d : Drawn). d ≡ Octets s → ⊥) (eqb q 2)
      (λ e. either (λ (d : Drawn). d ≡ Octets s → ⊥) (eqb x 0) (λ w. absurd (clash w z)) (λ w. outside-not))
      (λ e. outside-not))

  -- the record's Commit
  pub record FromRecord (ls : List ℕ) (p : Peer) (q : ℕ) : Type 0 where
    pub commit : eqb q 2 ≡ false
    pub some : eqb p.run.state 0 ≡ false
    pub listed : listed ls p.run.group ≡ true
    pub size : length (take (commit_length p.run.group) p.run.own) ≡ commit_length p.run.group
    pub octets : commit_body p.run.group (take p.run.toklen p.run.token) (take (commit_length p.run.group) p.run.own) ≡ s

  confirm-not : (p : Peer) (v : List ℕ) → record_confirm p v ≡ Octets s → ⊥
  unfolding record_confirm draw_confirm
  confirm-not p v =
      either (λ (d : Drawn). d ≡ Octets s → ⊥) (p.run.state is 2)
      (λ e. either (λ (d : Drawn). d ≡ Octets s → ⊥) (eqb (length v) 32) (λ e. no-offer _ (confirm-no-offer gs p.run.sc v)) (λ e. outside-not))
      (λ e. either (λ (d : Drawn). d ≡ Octets s → ⊥) (p.run.state isnt 0) (λ e. outside-not)
      (λ e. either (λ (d : Drawn). d ≡ Octets s → ⊥) (p.link.finished isnt 0)
      (λ e. either (λ (d : Drawn). d ≡ Octets s → ⊥) (eqb (length v) 32) (λ e. no-offer _ (confirm-no-offer gs 65535 v)) (λ e. outside-not))
      (λ e. outside-not)))

  commit-from : (ls : List ℕ) (p : Peer) (q : ℕ) → eqb q 2 ≡ false → record_commit ls p ≡ Octets s → FromRecord ls p q
  unfolding record_commit draw_commit
  commit-from ls p q k =
      either (λ (d : Drawn). d ≡ Octets s → FromRecord ls p q) (p.run.state is 0) (λ e. outside-not)
      (λ some. either (λ (d : Drawn). d ≡ Octets s → FromRecord ls p q) (listed ls p.run.group)
      (λ l. either (λ (d : Drawn). d ≡ Octets s → FromRecord ls p q) (ltb 256 (length (take p.run.toklen p.run.token))) (λ e. outside-not)
      (λ e. either (λ (d : Drawn). d ≡ Octets s → FromRecord ls p q) (eqb (length (take (commit_length p.run.group) p.run.own)) (commit_length p.run.group))
      (λ z w. record { commit = k; some = some; listed = l; size = eqb-true _ _ z; octets = octets-is w })
      (λ e. outside-not)))
      (λ e. outside-not))

  one-not-two : (q : ℕ) → eqb q 1 ≡ true → eqb q 2 ≡ false
  one-not-two q e = let z = eqb-true q 1 e in rw z

  pub record-from : (ls : List ℕ) (p : Peer) (q : ℕ) (v : List ℕ) → record_body ls p q v ≡ Octets s → FromRecord ls p q
  unfolding record_body
  record-from ls p q v =
      either (λ (d : Drawn). d ≡ Octets s → FromRecord ls p q) (q is 1) (λ e. commit-from ls p q (one-not-two q e))
      (λ e. either (λ (d : Drawn). d ≡ Octets s → FromRecord ls p q) (q is 2) (λ e w. absurd (confirm-not p v w)) (λ e. outside-not))

  -- what is read is the record's own commit
  pub reads-own : (ls : List ℕ) (p : Peer) (q : ℕ) → Listing ls → FromRecord ls p q → Padded p.run.group p.run.own
      → ◌≡◌ {A = Commit} (record { group = g; octets = stored (commit_of s g n) }) (own_commit p)
  unfolding commit_body
  reads-own ls p q L F P =
      let k = p.run.group in
      let t = take p.run.toklen p.run.token in
      let c = take (commit_length k) p.run.own in
      let h = commit-shape gs s g n r in
      let w : g ≡ k = sym h.group ∙ ap group_of (sym F.octets) ∙ body-third 1 0 k t c (known-fits k (L.known k F.listed)) in
      let z : length s ≡ 8 + length t + length c = ap length (sym F.octets) ∙ length-body 1 0 k t c in
      let y : length s ≡ 8 + n + commit_length k = h.total ∙ ap (λ (x : ℕ). 8 + n + commit_length x) w in
      let m : n ≡ length t = omega (arith, z, y, F.size) in
      let v : commit_of s g n ≡ c =
      ap (λ (x : List ℕ). commit_of x g n) (sym F.octets) ∙ ap (λ (x : ℕ). commit_of (body 1 0 k t c) x n) w ∙ ap (λ (x : ℕ). commit_of (body 1 0 k t c) k x) m ∙ commit_back k t c F.size in
      commit_is _ w (ap stored v ∙ P)
