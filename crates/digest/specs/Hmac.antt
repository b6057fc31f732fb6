-- HMAC over SHA-256, as RFC 2104 defines it, with blocks of 64 bytes: the key as a block, the two masks, and the
-- authentication code of a message under a key, which is 32 bytes. Keys and messages are lists of bytes.
use Rattle.std.specs.Prelude.{◌≡◌, ℕ, ◌-◌, cond, List, ◌++◌, map, length, replicate, codes, bit_xor, nat_lt}
use Rattle.digest.specs.Sha256.{number_from, sha256}

-- a key that is longer than a block is hashed first
unfoldable pub short_key : List ℕ → List ℕ
short_key key = cond (nat_lt 64 (length key)) (sha256 key) key

-- bytes, and then zeros up to the length of a block
unfoldable pub to_block : List ℕ → List ℕ
to_block bytes = bytes ++ replicate (64 - length bytes) 0

-- each byte xored with the mask
unfoldable pub xored : ℕ → List ℕ → List ℕ
xored mask bytes = map (λ b. bit_xor b mask) bytes

-- the RFC's H(K xor opad, H(K xor ipad, text))
unfoldable pub hmac : List ℕ → List ℕ → List ℕ
hmac key message =
    sha256 (xored 0x5c (to_block (short_key key)) ++ sha256 (xored 0x36 (to_block (short_key key)) ++ message))

-- the test cases 1, 2 and 6 of RFC 4231: a short key, a key that is text, and a key that is longer than a block
abbrev pub TestCases : Type 0
TestCases =
    (number_from 0 (hmac (replicate 20 0x0b) (codes "Hi There"))
    ≡ 0xb0344c61d8db38535ca8afceaf0bf12b881dc200c9833da726e9376c2e32cff7)
    × (number_from 0 (hmac (codes "Jefe") (codes "what do ya want for nothing?"))
    ≡ 0x5bdcc146bf60754e6a042426089575c75a003f089d2739839dec58b964ec3843)
    × (number_from 0 (hmac (replicate 131 0xaa) (codes "Test Using Larger Than Block-Size Key - Hash Key First"))
    ≡ 0x60e431591ee0b67f0d8a26aacbf5b77f8e0bc6213728c5140546040f0ee37f54)
