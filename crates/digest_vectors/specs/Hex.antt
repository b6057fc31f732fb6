-- Bytes as text in hex: two digits for each byte, the high one first, with small letters; and what it is that a text
-- is answered by its hash, or two texts by their code.
use Rattle.std.specs.Prelude.{◌≡◌, ℕ, ◌+◌, ◌/◌, ◌%◌, cond, List, [], ◌∷◌, nat_lt}
use Rattle.digest.specs.Hmac.{hmac}
use Rattle.digest.specs.Sha256.{sha256}

-- the character of a digit
abbrev pub digit : ℕ → ℕ
digit d = cond (nat_lt d 10) (48 + d) (87 + d)

unfoldable pub hex_of : List ℕ → List ℕ
hex_of [] = []
hex_of (b ∷ bs) = digit (b / 16) ∷ (digit (b % 16) ∷ hex_of bs)

-- the digest is the hash of the message that the text stands for
pub record Hashed (text digest : List ℕ) : Type 0 where
  pub message : List ℕ
  pub reads : hex_of message ≡ text
  pub value : digest ≡ sha256 message

-- the digest is the code of the message under the key, which the two texts stand for
pub record Coded (key_text text digest : List ℕ) : Type 0 where
  pub key : List ℕ
  pub message : List ℕ
  pub reads_key : hex_of key ≡ key_text
  pub reads : hex_of message ≡ text
  pub value : digest ≡ hmac key message
