-- Demand 3 holds, over every list of calls.
use mathlib.Core.Path.{◌≡◌, refl, sym, ap, ◌∙◌, subst}
use mathlib.Core.Bool.{Bool, true, false}
use mathlib.Core.List.{List}
use Prim.Native.Nat.{ℕ}
use native.Mathlib.Omega.{arith}
use Rattle.protocol.specs.Model.{Commit, Side, A, B, other, state, unlinked, finished}
use Rattle.protocol.specs.Model as model
use Rattle.protocol.specs.Repeats.{latest}
use Rattle.protocol.proofs.Repeats.{each-by, limited-within}
use Rattle.protocol.proofs.Formed.{formed-before}
use Rattle.protocol.proofs.Agree.{agreement}
use Rattle.octets.specs.Scan.{bit}
use Rattle.record.specs.declared.Link.{Link}
use Rattle.record.specs.declared.Peer.{Peer}
use Rattle.record.specs.Layout.{no_link}
use Rattle.table.specs.Table.{decode_table, look}
use Rattle.rules.specs.Book.{◌isnt◌}
use Rattle.call_laws.proofs.Good as good
use Rattle.agreement.specs.Calls.{Entry, AllHanded, table_of}
use Rattle.agreement.specs.Story.{Pair, exchanged, story_of}
use Rattle.agreement.specs.Story as story
use Rattle.agreement.specs.Statement.{run, Premises, Says, no-link, a_link, Formed, Demand3}
use Rattle.agreement.specs.Needed.{Needed, Stronger}
use Rattle.agreement.proofs.Engine.{Lawful}
use Rattle.agreement.proofs.Shows.{shows-limit, shows-counts}
use Rattle.agreement.proofs.History.{shown, limits, set-limits}
use Rattle.agreement.proofs.Acts.{view, view_link}
use Rattle.agreement.proofs.Valid.{own_of, peer_of, pair_is, other-other, hist, states, rightful, valid, formed-in}

-- the protocol's link, as the story has it
abbrev link_view : story.Link → model.Link
link_view story.unlinked = unlinked
link_view (story.finished p m) = finished (own_of p) (peer_of p) m

bit-isnt : (m : Bool) → (bit m isnt 0) ≡ m
bit-isnt true = refl
bit-isnt false = refl

says-view : {l : story.Link} {k : Link} → Says l k → view_link k ≡ link_view l
unfolding view_link no_link
says-view no-link = refl
says-view (a_link {mark = m} e f a b c) = rw (e, f, a, b, c, bit-isnt m)

view-link : (p : Peer) → (view p).link ≡ view_link p.link
unfolding view
view-link p = refl

module _ (L : Lawful) (own : Side → List ℕ) {h : List Entry} (H : AllHanded h) where
  linked : (X : Side) (l : story.Link) → (story_of h X (own (other X))).link ≡ l → (state (hist L own H) X).link ≡ link_view l
  linked X l e =
      ap (λ (p : model.Peer). p.link) (states L own H X) ∙ view-link (look (decode_table (table_of h X)) (own (other X))) ∙ says-view (shown L H X (own (other X))).link ∙ ap link_view e

  stronger : Stronger own h
  stronger = record {
    agree = λ N p q e f.
        let z = agreement (hist L own H) (valid L own H N) (own_of p) (peer_of p) (own_of q) (peer_of q) (linked A (story.finished p false) e) (linked B (story.finished q false) f) in
        pair_is q (sym (ap (λ (c : Commit). c.group) z.1)) (sym (ap (λ (c : Commit). c.octets) z.1)) (sym (ap (λ (c : Commit). c.octets) z.0));
    formed = λ R X p m e.
        let o = formed-before (hist L own H) (rightful L own H R) X (own_of p) (peer_of p) m (linked X (story.finished p m) e) in
        subst (λ (Z : Side). Formed (other X) (own Z) (exchanged p) h) (other-other X) (formed-in L own H (other X) (exchanged p) o.0 o.1);
  }

-- what the engine's proofs give
pub lawful : Lawful
lawful =
    record {
      initiate_good = good.initiate_good;
      kill_good = good.kill_good;
      receive_good = good.receive_good;
      expire_good = good.expire_good;
      expire_address = good.expire_address;
    }

-- the scope's premises are more than what is needed
pub premises-needed : (own : Side → List ℕ) (h : List Entry) → Premises own h → Needed own h
premises-needed own h P = record {
  once = λ e d before back f c k z u v. P.once e d before back f c k u.uses v.uses;
  only = λ X e before a time frame fresh expected verdict g n c s z k w r f.
      record { octets = frame; token = n; sent = P.only X e before a time frame fresh expected verdict c s z k w; reads = r; commit = refl };
  rightful = record {
    right = λ X e before a time frame fresh expected n c s z k w r b d f. (frame, P.right X e before a time frame fresh expected n _ c s z k w r (run b d refl));
  };
}

-- (b) and (c), each from what it needs alone
pub demand3-needed : (own : Side → List ℕ) (h : List Entry) → AllHanded h → Stronger own h
demand3-needed own h H = stronger lawful own H

-- DEMAND 3, for every list of calls, whatever is handed over
pub demand3 : (own : Side → List ℕ) (h : List Entry) → AllHanded h → Demand3 own h
demand3 own h H = record {
  says = λ X a. (shown lawful H X a).link;
  agree = λ P. (demand3-needed own h H).agree (premises-needed own h P);
  formed = λ P. (demand3-needed own h H).formed (premises-needed own h P).rightful;
  repeats = λ X a. (shown lawful H X a).repeats;
  lasts = λ X a q. shows-limit _ _ (story_of h X a) (shown lawful H X a) q;
  limits = limits lawful H;
  eleven = λ X a. limited-within 10 _ (each-by (λ r b. b.1) (limits lawful H X a)) (shown lawful H X a).repeats;
  set = λ X n S a. limited-within n _ (each-by (λ r b. omega (arith, b)) (set-limits lawful n X H S a)) (shown lawful H X a).repeats;
}

-- and Sync counts every repeat, with no exception: of a run in being, those since it began or, once its pair stands, since then
pub sync-counts : (h : List Entry) → AllHanded h → (X : Side) (a : List ℕ) → (story_of h X a).running ≡ true
    → (look (decode_table (table_of h X)) a).run.sync ≡ latest (story_of h X a).stands (story_of h X a).runs
sync-counts h H X a q = shows-counts _ _ (story_of h X a) (shown lawful H X a) q

-- and so for the tables: two finished links with each other, neither marked, have the same group and the same two commits
record Linked (l : story.Link) (k : Link) : Type 0 where
  pair : Pair
  story : l ≡ story.finished pair false
  group : k.group ≡ pair.group
  own : k.own ≡ pair.own
  peer : k.peer ≡ pair.peer

clear-link : {l : story.Link} {k : Link} → Says l k → k.finished ≡ 1 → k.superseded ≡ 0 → Linked l k
unfolding no_link
clear-link no-link e f = let z : ◌≡◌ {A = ℕ} 0 1 = e in absurd (omega arith)
clear-link (a_link {p = p} {mark = true} e g a b c) h f = let z : ◌≡◌ {A = ℕ} 1 0 = sym g ∙ f in absurd (omega arith)
clear-link (a_link {p = p} {mark = false} e g a b c) h f = record { pair = p; story = refl; group = a; own = b; peer = c }

abbrev link_in : List Entry → Side → List ℕ → Link
link_in h X a = (look (decode_table (table_of h X)) a).link

pub tables_agree : (own : Side → List ℕ) (h : List Entry) → AllHanded h → Premises own h
    → (link_in h A (own B)).finished ≡ 1 → (link_in h A (own B)).superseded ≡ 0 → (link_in h B (own A)).finished ≡ 1 → (link_in h B (own A)).superseded ≡ 0
    → ((link_in h B (own A)).group ≡ (link_in h A (own B)).group) × ((link_in h B (own A)).own ≡ (link_in h A (own B)).peer) × ((link_in h B (own A)).peer ≡ (link_in h A (own B)).own)
tables_agree own h H P e f g k =
    let D = demand3 own h H in
    let x = clear-link (D.says A (own B)) e f in
    let y = clear-link (D.says B (own A)) g k in
    let z = D.agree P x.pair y.pair x.story y.story in
    (y.group ∙ (ap (λ (p : Pair). p.group) z ∙ sym x.group), y.own ∙ (ap (λ (p : Pair). p.own) z ∙ sym x.peer), y.peer ∙ (ap (λ (p : Pair). p.peer) z ∙ sym x.own))
