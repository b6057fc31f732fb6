-- SHA-256, as FIPS 180-4 defines it, over messages that are lists of bytes.
-- A word is a number below 2 ^ 32, and a sum of words is taken modulo 2 ^ 32.
-- In the standard's order: the operations on words, the functions of six names, the constants, the padding of
-- a message, its parts as words, the schedule, the rounds, the compression of a block, and the hash, which is
-- 32 bytes, each word's high byte first.
-- The standard gives messages below 2 ^ 64 bits a hash. Here each list has one: the length in the padding is
-- taken modulo 2 ^ 64, which for the standard's messages is the length itself.
use Rattle.std.specs.Prelude.{◌≡◌, ℕ, zero, suc, ◌+◌, ◌-◌, ◌*◌, ◌/◌, ◌%◌, ◌^◌, ◌≤◌, List, [], ◌∷◌, ◌++◌, map, length, take, drop, replicate, codes, bit_and, bit_or, bit_xor, slice_index}
use Rattle.std.specs.List.{range_with_len, flat_map}
use Rattle.digest.specs.declared.state.State.{State}

-- 3.2: the word x turned right by n places, for n from 1 to 31
unfoldable pub rotr : ℕ → ℕ → ℕ
rotr n x = bit_or (x / 2 ^ n) ((x * 2 ^ (32 - n)) % 2 ^ 32)

-- 3.2: the word x shifted right by n places
unfoldable pub shr : ℕ → ℕ → ℕ
shr n x = x / 2 ^ n

-- the word x with each bit turned over
unfoldable pub complement : ℕ → ℕ
complement x = 2 ^ 32 - 1 - x

-- 4.1.2: the functions, (4.2) to (4.7)
unfoldable pub Ch : ℕ → ℕ → ℕ → ℕ
Ch x y z = bit_xor (bit_and x y) (bit_and (complement x) z)

unfoldable pub Maj : ℕ → ℕ → ℕ → ℕ
Maj x y z = bit_xor (bit_xor (bit_and x y) (bit_and x z)) (bit_and y z)

unfoldable pub Σ0 : ℕ → ℕ
Σ0 x = bit_xor (bit_xor (rotr 2 x) (rotr 13 x)) (rotr 22 x)

unfoldable pub Σ1 : ℕ → ℕ
Σ1 x = bit_xor (bit_xor (rotr 6 x) (rotr 11 x)) (rotr 25 x)

unfoldable pub σ0 : ℕ → ℕ
σ0 x = bit_xor (bit_xor (rotr 7 x) (rotr 18 x)) (shr 3 x)

unfoldable pub σ1 : ℕ → ℕ
σ1 x = bit_xor (bit_xor (rotr 17 x) (rotr 19 x)) (shr 10 x)

-- 4.2.2: the constants K, one for each round
unfoldable pub constants : List ℕ
constants =
    0x428a2f98 ∷ 0x71374491 ∷ 0xb5c0fbcf ∷ 0xe9b5dba5 ∷ 0x3956c25b ∷ 0x59f111f1 ∷ 0x923f82a4 ∷ 0xab1c5ed5
    ∷ 0xd807aa98 ∷ 0x12835b01 ∷ 0x243185be ∷ 0x550c7dc3 ∷ 0x72be5d74 ∷ 0x80deb1fe ∷ 0x9bdc06a7 ∷ 0xc19bf174
    ∷ 0xe49b69c1 ∷ 0xefbe4786 ∷ 0x0fc19dc6 ∷ 0x240ca1cc ∷ 0x2de92c6f ∷ 0x4a7484aa ∷ 0x5cb0a9dc ∷ 0x76f988da
    ∷ 0x983e5152 ∷ 0xa831c66d ∷ 0xb00327c8 ∷ 0xbf597fc7 ∷ 0xc6e00bf3 ∷ 0xd5a79147 ∷ 0x06ca6351 ∷ 0x14292967
    ∷ 0x27b70a85 ∷ 0x2e1b2138 ∷ 0x4d2c6dfc ∷ 0x53380d13 ∷ 0x650a7354 ∷ 0x766a0abb ∷ 0x81c2c92e ∷ 0x92722c85
    ∷ 0xa2bfe8a1 ∷ 0xa81a664b ∷ 0xc24b8b70 ∷ 0xc76c51a3 ∷ 0xd192e819 ∷ 0xd6990624 ∷ 0xf40e3585 ∷ 0x106aa070
    ∷ 0x19a4c116 ∷ 0x1e376c08 ∷ 0x2748774c ∷ 0x34b0bcb5 ∷ 0x391c0cb3 ∷ 0x4ed8aa4a ∷ 0x5b9cca4f ∷ 0x682e6ff3
    ∷ 0x748f82ee ∷ 0x78a5636f ∷ 0x84c87814 ∷ 0x8cc70208 ∷ 0x90befffa ∷ 0xa4506ceb ∷ 0xbef9a3f7 ∷ 0xc67178f2 ∷ []

-- 5.1.1: a message of n bytes is followed by the byte 0x80, which is a bit 1 and seven bits 0, by the least
-- number of zero bytes with which the length, so far, is 56 modulo 64 ..
unfoldable pub zeros : ℕ → ℕ
zeros n = (119 - n % 64) % 64

-- .. and by the message's length in bits, as eight bytes, the high byte first
unfoldable pub be64 : ℕ → List ℕ
be64 x =
    (x / 2 ^ 56 % 256) ∷ (x / 2 ^ 48 % 256) ∷ (x / 2 ^ 40 % 256) ∷ (x / 2 ^ 32 % 256)
    ∷ (x / 2 ^ 24 % 256) ∷ (x / 2 ^ 16 % 256) ∷ (x / 2 ^ 8 % 256) ∷ (x % 256) ∷ []

unfoldable pub padding : ℕ → List ℕ
padding n = 0x80 ∷ (replicate (zeros n) 0 ++ be64 ((8 * n) % 2 ^ 64))

unfoldable pub padded : List ℕ → List ℕ
padded m = m ++ padding (length m)

-- 5.2.1: word t of a block, and the block's sixteen words
unfoldable pub word_at : List ℕ → ℕ → ℕ
word_at m t =
    slice_index m (4 * t) * 2 ^ 24 + slice_index m (4 * t + 1) * 2 ^ 16 + slice_index m (4 * t + 2) * 2 ^ 8 + slice_index m (4 * t + 3)

unfoldable pub words : List ℕ → List ℕ
words m = map (word_at m) (range_with_len 0 16)

-- 6.2.2, step 1: the next word of a schedule of t words, from those at t - 2, t - 7, t - 15 and t - 16
unfoldable pub next_word : List ℕ → ℕ
next_word w =
    (σ1 (slice_index w (length w - 2)) + slice_index w (length w - 7) + σ0 (slice_index w (length w - 15)) + slice_index w (length w - 16))
    % 2 ^ 32

-- the words w and the n that come next
unfoldable pub extended : ℕ → List ℕ → List ℕ
extended zero w = w
extended (suc n) w = extended n (w ++ next_word w ∷ [])

-- the 64 words of a block's schedule
unfoldable pub schedule_of : List ℕ → List ℕ
schedule_of m = extended 48 (words m)

-- 6.2.2, step 3: one round, with the round's constant k and word w
unfoldable pub temporary1 : State → ℕ → ℕ → ℕ
temporary1 s k w = (s.h + Σ1 s.e + Ch s.e s.f s.g + k + w) % 2 ^ 32

unfoldable pub temporary2 : State → ℕ
temporary2 s = (Σ0 s.a + Maj s.a s.b s.c) % 2 ^ 32

unfoldable pub round_of : State → ℕ → ℕ → State
round_of s k w =
    record {
      a = (temporary1 s k w + temporary2 s) % 2 ^ 32;
      b = s.a;
      c = s.b;
      d = s.c;
      e = (s.d + temporary1 s k w) % 2 ^ 32;
      f = s.e;
      g = s.f;
      h = s.g;
    }

-- a round for each constant and word
unfoldable pub rounds : State → List ℕ → List ℕ → State
rounds s [] ws = s
rounds s (k ∷ ks) [] = s
rounds s (k ∷ ks) (w ∷ ws) = rounds (round_of s k w) ks ws

-- 6.2.2, step 4: the sum of two states, word by word
unfoldable pub sum_of : State → State → State
sum_of s t =
    record {
      a = (s.a + t.a) % 2 ^ 32;
      b = (s.b + t.b) % 2 ^ 32;
      c = (s.c + t.c) % 2 ^ 32;
      d = (s.d + t.d) % 2 ^ 32;
      e = (s.e + t.e) % 2 ^ 32;
      f = (s.f + t.f) % 2 ^ 32;
      g = (s.g + t.g) % 2 ^ 32;
      h = (s.h + t.h) % 2 ^ 32;
    }

-- the state after a block of 64 bytes
unfoldable pub compressed : State → List ℕ → State
compressed s m = sum_of (rounds s constants (schedule_of m)) s

-- the state after the first n blocks of m, and after all of them
unfoldable pub absorbed : ℕ → State → List ℕ → State
absorbed zero s m = s
absorbed (suc n) s m = absorbed n (compressed s (take 64 m)) (drop 64 m)

unfoldable pub absorbed_all : State → List ℕ → State
absorbed_all s m = absorbed (length m / 64) s m

-- 5.3.3: the state before the first block
abbrev pub start : State
start =
    record {
      a = 0x6a09e667;
      b = 0xbb67ae85;
      c = 0x3c6ef372;
      d = 0xa54ff53a;
      e = 0x510e527f;
      f = 0x9b05688c;
      g = 0x1f83d9ab;
      h = 0x5be0cd19;
    }

-- a word as four bytes, the high byte first, and a state as 32
unfoldable pub be32 : ℕ → List ℕ
be32 x = (x / 2 ^ 24 % 256) ∷ (x / 2 ^ 16 % 256) ∷ (x / 2 ^ 8 % 256) ∷ (x % 256) ∷ []

unfoldable pub state_bytes : State → List ℕ
state_bytes s = flat_map be32 (s.a ∷ s.b ∷ s.c ∷ s.d ∷ s.e ∷ s.f ∷ s.g ∷ s.h ∷ [])

-- the hash of a message
unfoldable pub sha256 : List ℕ → List ℕ
sha256 m = state_bytes (absorbed_all start (padded m))

-- what is left of a hash where the message's first n bytes, which are whole blocks, have led to the state s:
-- the hash, if m is the rest of the message
unfoldable pub ending : State → ℕ → List ℕ → List ℕ
ending s n m = state_bytes (absorbed_all s (m ++ padding (n + length m)))

-- bytes as one number, the high byte first, as the standard prints a hash
unfoldable pub number_from : ℕ → List ℕ → ℕ
number_from n [] = n
number_from n (b ∷ bs) = number_from (n * 256 + b) bs

-- the standard's examples: the empty message, one block, and two blocks
abbrev pub Vectors : Type 0
Vectors =
    (number_from 0 (sha256 []) ≡ 0xe3b0c44298fc1c149afbf4c8996fb92427ae41e4649b934ca495991b7852b855)
    × (number_from 0 (sha256 (codes "abc")) ≡ 0xba7816bf8f01cfea414140de5dae2223b00361a396177a9cb410ff61f20015ad)
    × (number_from 0 (sha256 (codes "abcdbcdecdefdefgefghfghighijhijkijkljklmklmnlmnomnopnopq"))
    ≡ 0x248d6a61d20638b8e5c026930c3e6039a33ce45964ff2167f6ecedd419db06c1)

-- the padding is the standard's: with the zeros the length is 56 modulo 64, with fewer it is not, and the padded message
-- is whole blocks; and a hash is 32 bytes
abbrev pub Laws : Type 0
Laws =
    ((n : ℕ) → (n + 1 + zeros n) % 64 ≡ 56)
    × ((n z : ℕ) → (n + 1 + z) % 64 ≡ 56 → zeros n ≤ z)
    × ((m : List ℕ) → length (padded m) % 64 ≡ 0)
    × ((m : List ℕ) → length (sha256 m) ≡ 32)
