-- The constants of 01: STEPS, the index adjustments and the levels, as signed entries. Assumes nothing.
use Rattle.std.specs.Prelude.{List, [], ◌∷◌, map, ℤ, pos, negsuc}

-- the 89 steps
unfoldable pub steps : List ℤ
steps =
    map pos
    (7 ∷ 8 ∷ 9 ∷ 10 ∷ 11 ∷ 12 ∷ 13 ∷ 14 ∷ 16 ∷ 17 ∷ 19 ∷ 21 ∷ 23 ∷ 25 ∷ 28 ∷ 31 ∷ 34 ∷ 37 ∷ 41 ∷ 45 ∷ 50 ∷ 55 ∷ 60 ∷ 66
    ∷ 73 ∷ 80 ∷ 88 ∷ 97 ∷ 107 ∷ 118 ∷ 130 ∷ 143 ∷ 157 ∷ 173 ∷ 190 ∷ 209 ∷ 230 ∷ 253 ∷ 279 ∷ 307 ∷ 337 ∷ 371 ∷ 408 ∷ 449
    ∷ 494 ∷ 544 ∷ 598 ∷ 658 ∷ 724 ∷ 796 ∷ 876 ∷ 963 ∷ 1060 ∷ 1166 ∷ 1282 ∷ 1411 ∷ 1552 ∷ 1707 ∷ 1878 ∷ 2066 ∷ 2272
    ∷ 2499 ∷ 2749 ∷ 3024 ∷ 3327 ∷ 3660 ∷ 4026 ∷ 4428 ∷ 4871 ∷ 5358 ∷ 5894 ∷ 6484 ∷ 7132 ∷ 7845 ∷ 8630 ∷ 9493
    ∷ 10442 ∷ 11487 ∷ 12635 ∷ 13899 ∷ 15289 ∷ 16818 ∷ 18500 ∷ 20350 ∷ 22385 ∷ 24623 ∷ 27086 ∷ 29794 ∷ 32767 ∷ [])

-- H: by the whole code; negsuc 0 is −1
unfoldable pub h_index_adjust : List ℤ
h_index_adjust =
    negsuc 0 ∷ negsuc 0 ∷ negsuc 0 ∷ negsuc 0 ∷ pos 2 ∷ pos 4 ∷ pos 6 ∷ pos 8
    ∷ negsuc 0 ∷ negsuc 0 ∷ negsuc 0 ∷ negsuc 0 ∷ pos 2 ∷ pos 4 ∷ pos 6 ∷ pos 8 ∷ []

-- L, L+: by the code's two low bits
unfoldable pub l_index_adjust : List ℤ
l_index_adjust = negsuc 0 ∷ pos 2 ∷ pos 4 ∷ pos 6 ∷ []

-- the levels, by the code's two low bits
unfoldable pub l_levels : List ℤ
l_levels = map pos (1 ∷ 3 ∷ 5 ∷ 7 ∷ [])

unfoldable pub l_plus_levels : List ℤ
l_plus_levels = map pos (1 ∷ 2 ∷ 3 ∷ 14 ∷ [])

-- L+ in version 1
unfoldable pub legacy_l_plus_levels : List ℤ
legacy_l_plus_levels = map pos (10 ∷ 11 ∷ 12 ∷ 14 ∷ [])
