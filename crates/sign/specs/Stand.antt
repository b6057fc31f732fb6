-- The stand-in for a signature: the HMAC-SHA-256 of the bytes under the key, 32 bytes, and then 32 zero bytes.
use Rattle.std.specs.Prelude.{ℕ, List, ◌++◌, replicate}
use Rattle.digest.specs.Hmac.{hmac}

unfoldable pub stand_in : List ℕ → List ℕ → List ℕ
stand_in key bytes = hmac key bytes ++ replicate 32 0
