-- The definitions of the hash held to the standard: its examples by computing them, and its padding.
use Rattle.std.proofs.Common.{◌≡◌, ℕ, ◌+◌, ◌%◌, ◌≤◌, List, length, refl, arith}
use Rattle.std.proofs.lemmas.List.{length-append, length-replicate}
use Rattle.digest.specs.Hmac.{TestCases, hmac, short_key, to_block, xored}
use Rattle.digest.specs.Sha256.{Ch, Laws, Maj, Vectors, absorbed, absorbed_all, be32, be64, complement, compressed, constants, extended, next_word, number_from, padded, padding, rotr, round_of, rounds, schedule_of, sha256, shr, state_bytes, sum_of, temporary1, temporary2, word_at, words, zeros, Σ0, Σ1, σ0, σ1}

pub vectors : Vectors
unfolding Ch Maj Σ0 Σ1 σ0 σ1 absorbed absorbed_all be32 be64 complement compressed constants extended next_word number_from padded padding rotr round_of rounds schedule_of sha256 shr state_bytes sum_of temporary1 temporary2 word_at words zeros
vectors = (refl, refl, refl)

reaches : (n : ℕ) → (n + 1 + zeros n) % 64 ≡ 56
unfolding zeros
reaches n = omega arith

least : (n z : ℕ) → (n + 1 + z) % 64 ≡ 56 → zeros n ≤ z
unfolding zeros
least n z h = omega arith

whole : (m : List ℕ) → length (padded m) % 64 ≡ 0
unfolding padded padding be64
whole m = let r = reaches (length m) in simp (length-append, length-replicate) (omega arith)

pub long : (m : List ℕ) → length (sha256 m) ≡ 32
unfolding sha256 state_bytes be32
long m = refl

pub laws : Laws
laws = (reaches, least, whole, long)

pub cases : TestCases
unfolding hmac short_key to_block xored Ch Maj Σ0 Σ1 σ0 σ1 absorbed absorbed_all be32 be64 complement compressed constants extended next_word number_from padded padding rotr round_of rounds schedule_of sha256 shr state_bytes sum_of temporary1 temporary2 word_at words zeros
cases = (refl, refl, refl)
