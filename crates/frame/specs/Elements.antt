-- What a run of whole elements is, said by the elements themselves, and what is promised of a Confirm that has one behind it.
use Rattle.std.specs.Prelude.{◌≡◌, List, [], ◌∷◌, ◌++◌, ℕ, ◌+◌, ◌≤◌, ◌<◌, length, take, Some, None}
use Rattle.frame.specs.Frame.{read_body, value_of, elements_of}
use Rattle.frame.specs.declared.Body.TheVariants.{Confirm}

-- "identifier octet, length octet, contents"
pub record Element : Type 0 where
  pub identifier : ℕ
  pub contents : List ℕ

-- "repeated to the end"
unfoldable pub elements_octets : List Element → List ℕ
elements_octets [] = []
elements_octets (e ∷ es) = e.identifier ∷ (length e.contents ∷ (e.contents ++ elements_octets es))

-- the octets of some elements, none of them cut
pub record Elements (s : List ℕ) : Type 0 where
  pub elements : List Element
  pub octets : s ≡ elements_octets elements

-- ---- a Confirm and what follows it

-- "The reading of such a Confirm now takes 40 octets and any run of whole elements, 2,304 octets in all at most, and hands the trailing part back": of every
-- frame that is read as a status 0 Confirm, whatever groups are listed. Its first 40 octets are read alike, counter and value.
pub record Trailing (frame : List ℕ) (counter : ℕ) : Type 0 where
  pub read : (groups : List ℕ) → read_body groups frame ≡ Some (Confirm counter)
  pub first : (groups : List ℕ) → read_body groups (take 40 frame) ≡ Some (Confirm counter)
  pub value : value_of (take 40 frame) ≡ value_of frame
  pub parts : take 40 frame ++ elements_of frame ≡ frame
  pub elements : Elements (elements_of frame)
  pub longest : length frame ≤ 2304

-- 40 octets that are read as a status 0 Confirm, with others behind them. "A cut element is refused as 7."
pub record Followed (frame behind : List ℕ) (counter : ℕ) : Type 0 where
  pub read : (groups : List ℕ) → Elements behind → 40 + length behind ≤ 2304 → read_body groups (frame ++ behind) ≡ Some (Confirm counter)
  pub cut : (groups : List ℕ) → (Elements behind → ⊥) → read_body groups (frame ++ behind) ≡ None
  pub long : (groups : List ℕ) → 2304 < 40 + length behind → read_body groups (frame ++ behind) ≡ None
  pub back : elements_of (frame ++ behind) ≡ behind
