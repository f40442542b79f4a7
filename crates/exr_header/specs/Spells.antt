-- What it is for bytes to spell a head: a relation on whole lists, beside `head_of`, which reads from the front.
-- File Layout, "Components One and Two: Magic Number and Version Field" and "Component Three: Header".
use Rattle.std.specs.Prelude.{◌≡◌, ◌≤◌, ◌^◌, ℕ, true, false, List, [], ◌∷◌, ◌++◌, All, length, Result, Ok}
use Rattle.exr_attributes.specs.declared.fault.HeaderFault.{HeaderFault}
use Rattle.exr_attributes.specs.Spelling.{AreAttributes}
use Rattle.exr_judge.specs.declared.header.Header.{Header}
use Rattle.exr_judge.specs.Picture.{IsPicture}
use Rattle.exr_header.specs.Head.{Head, is_version, has_bit, part_read, spelling_under, head_spelling, head_of}

-- the attributes of each header have a spelling: no name stands twice among them
abbrev pub AreHeaders : List Header → Type 0
AreHeaders [] = Unit {0}
AreHeaders (h ∷ hs) = AreAttributes h.attributes × AreHeaders hs

-- each header, behind those before it, passes every judging step under a version word, and says what they say
abbrev pub AreJudged : ℕ → List Header → List Header → Type 0
AreJudged word before [] = Unit {0}
AreJudged word before (h ∷ hs) = (part_read word before h.attributes ≡ Ok h) × AreJudged word (before ++ h ∷ []) hs

-- all of the bytes spell a head: the magic number, a version word, and the headers with their closing bytes
pub record Spells (bytes : List ℕ) (h : Head) : Type 0 where
  pub word : ℕ
  pub here : bytes ≡ spelling_under word h
  pub version : is_version word ≡ true
  pub multi : has_bit 4096 word ≡ h.multi
  pub headers : AreHeaders h.parts
  pub judged : AreJudged word [] h.parts
  pub some : 1 ≤ length h.parts
  pub one : h.multi ≡ false → length h.parts ≡ 1
  pub few : length h.parts ≤ 1024
  pub short : length bytes ≤ 2 ^ 24

-- a head that was read, and how many bytes it fills
abbrev pub head_read : Head → ℕ → Result (Head × ℕ) HeaderFault
head_read h n = Ok (h, n)

-- bytes are read as a head, whatever follows them
abbrev pub IsRead : List ℕ → Head → Type 0
IsRead bytes h = (rest : List ℕ) → head_of (bytes ++ rest) ≡ head_read h (length bytes)

-- what is known of every head: its parts make pictures, and what a writer puts spells it
pub record IsHead (h : Head) : Type 0 where
  pub pictures : All IsPicture h.parts
  pub spelled : Spells (head_spelling h) h
