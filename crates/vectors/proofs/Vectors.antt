-- Answers of the reference Rust, each a theorem that is computed. Made by `oracle/run antt`. Assumes nothing.
use mathlib.Core.List.{[], ◌∷◌}
use lib.Dec.{T}
use lib.IntN.{pos, negsuc}
use Rattle.sqv4_format.specs.Compute.{computing}
use Rattle.sqv4_format.specs.Tests.{encodes, decodes, decode_refused, plays}
use Rattle.sqv4_format.specs.declared.Variant.TheVariants.{H, L, LPlus}

vector1 : T (encodes H 255 1 8000 (pos 199 ∷ pos 23 ∷ negsuc 3 ∷ pos 0 ∷ pos 133 ∷ pos 78 ∷ pos 96 ∷ pos 187 ∷
    pos 17 ∷ negsuc 120 ∷ pos 168 ∷ negsuc 162 ∷ pos 104 ∷ pos 187 ∷ pos 44 ∷ pos 99 ∷ pos 4 ∷ pos 149 ∷ pos 102 ∷
    negsuc 162 ∷ negsuc 60 ∷ negsuc 192 ∷ pos 45 ∷ pos 23 ∷ negsuc 11 ∷ negsuc 191 ∷ pos 145 ∷ negsuc 83 ∷ pos 19 ∷
    negsuc 67 ∷ negsuc 176 ∷ negsuc 131 ∷ pos 96 ∷ pos 69 ∷ pos 17 ∷ negsuc 124 ∷ negsuc 58 ∷ pos 4 ∷ pos 51 ∷
    pos 62 ∷ negsuc 197 ∷ negsuc 129 ∷ pos 134 ∷ pos 124 ∷ pos 195 ∷ negsuc 73 ∷ negsuc 75 ∷ negsuc 119 ∷ negsuc 169 ∷
    pos 4 ∷ pos 160 ∷ pos 130 ∷ negsuc 124 ∷ negsuc 99 ∷ pos 141 ∷ pos 28 ∷ negsuc 32 ∷ negsuc 142 ∷ pos 98 ∷
    negsuc 8 ∷ pos 109 ∷ pos 168 ∷ negsuc 22 ∷ pos 64 ∷ pos 160 ∷ negsuc 167 ∷ pos 99 ∷ negsuc 190 ∷ negsuc 61 ∷
    negsuc 144 ∷ []) (83 ∷ 81 ∷ 86 ∷ 52 ∷ 3 ∷ 0 ∷ 1 ∷ 0 ∷ 64 ∷ 31 ∷ 0 ∷ 0 ∷ 70 ∷ 0 ∷ 0 ∷ 0 ∷ 2 ∷ 78 ∷ 183 ∷ 8 ∷ 147 ∷
    32 ∷ 189 ∷ 199 ∷ 19 ∷ 26 ∷ 58 ∷ 249 ∷ 161 ∷ 132 ∷ 184 ∷ 183 ∷ 145 ∷ 26 ∷ 133 ∷ 169 ∷ 17 ∷ 1 ∷ 15 ∷ 132 ∷ 209 ∷
    128 ∷ 57 ∷ 131 ∷ 14 ∷ 147 ∷ 169 ∷ 149 ∷ 2 ∷ 12 ∷ 2 ∷ 86 ∷ 17 ∷ 79 ∷ 28 ∷ 9 ∷ 0 ∷ 0 ∷ 0 ∷ 0 ∷ 0 ∷ 0 ∷ 0 ∷ 0 ∷ 0 ∷
    0 ∷ 0 ∷ 0 ∷ 0 ∷ 0 ∷ 0 ∷ 0 ∷ 0 ∷ 0 ∷ 0 ∷ 0 ∷ 0 ∷ 0 ∷ 0 ∷ 0 ∷ 0 ∷ 0 ∷ 0 ∷ 0 ∷ []))
unfolding computing
vector1 = tt

vector2 : T (encodes H 200 2 8000 (pos 0 ∷ pos 0 ∷ pos 32767 ∷ pos 0 ∷ pos 32767 ∷ negsuc 32767 ∷ pos 32767 ∷
    negsuc 32766 ∷ negsuc 32766 ∷ negsuc 32767 ∷ pos 32767 ∷ negsuc 32766 ∷ negsuc 32767 ∷ negsuc 32766 ∷ pos 0 ∷
    pos 32767 ∷ pos 0 ∷ negsuc 32766 ∷ negsuc 32766 ∷ negsuc 32767 ∷ negsuc 32767 ∷ pos 32767 ∷ negsuc 32766 ∷ pos 0 ∷
    negsuc 32767 ∷ pos 32767 ∷ negsuc 32766 ∷ negsuc 32767 ∷ negsuc 32767 ∷ negsuc 32766 ∷ pos 32767 ∷ negsuc 32766 ∷
    pos 0 ∷ negsuc 32766 ∷ negsuc 32767 ∷ pos 2 ∷ negsuc 32766 ∷ negsuc 1 ∷ pos 0 ∷ pos 0 ∷ negsuc 32766 ∷ negsuc 2 ∷
    pos 0 ∷ pos 3 ∷ pos 0 ∷ pos 3 ∷ negsuc 32767 ∷ pos 0 ∷ pos 32767 ∷ negsuc 1 ∷ pos 0 ∷ negsuc 0 ∷ negsuc 32766 ∷
    pos 1 ∷ pos 0 ∷ pos 1 ∷ pos 0 ∷ pos 0 ∷ negsuc 32767 ∷ pos 3 ∷ negsuc 32767 ∷ negsuc 2 ∷ negsuc 32766 ∷ pos 3 ∷
    pos 32767 ∷ pos 3 ∷ pos 0 ∷ pos 0 ∷ negsuc 32766 ∷ pos 4997 ∷ pos 0 ∷ pos 7666 ∷ negsuc 32767 ∷ pos 7077 ∷
    pos 32767 ∷ pos 3672 ∷ pos 0 ∷ negsuc 1000 ∷ negsuc 32767 ∷ negsuc 4976 ∷ negsuc 32767 ∷ negsuc 6697 ∷ pos 0 ∷
    negsuc 5610 ∷ pos 0 ∷ negsuc 2328 ∷ pos 0 ∷ pos 1687 ∷ negsuc 32767 ∷ pos 4771 ∷ negsuc 32766 ∷ pos 5739 ∷
    negsuc 32767 ∷ pos 4333 ∷ negsuc 32767 ∷ pos 1268 ∷ negsuc 32767 ∷ negsuc 2116 ∷ negsuc 32767 ∷ negsuc 4435 ∷
    pos 32767 ∷ negsuc 4821 ∷ pos 0 ∷ pos 18087 ∷ negsuc 32767 ∷ pos 15028 ∷ pos 0 ∷ pos 27582 ∷ negsuc 32766 ∷
    pos 1750 ∷ negsuc 32766 ∷ pos 19067 ∷ negsuc 32766 ∷ negsuc 12251 ∷ pos 0 ∷ negsuc 24056 ∷ pos 32767 ∷ pos 32195 ∷
    negsuc 32767 ∷ negsuc 27713 ∷ pos 0 ∷ pos 29052 ∷ pos 0 ∷ negsuc 10440 ∷ pos 0 ∷ pos 13309 ∷ pos 0 ∷ pos 11914 ∷
    pos 32767 ∷ pos 30286 ∷ []) (83 ∷ 81 ∷ 86 ∷ 52 ∷ 3 ∷ 0 ∷ 2 ∷ 0 ∷ 64 ∷ 31 ∷ 0 ∷ 0 ∷ 65 ∷ 0 ∷ 0 ∷ 0 ∷ 201 ∷ 81 ∷
    112 ∷ 128 ∷ 111 ∷ 63 ∷ 208 ∷ 128 ∷ 8 ∷ 120 ∷ 200 ∷ 72 ∷ 76 ∷ 200 ∷ 183 ∷ 76 ∷ 200 ∷ 128 ∷ 167 ∷ 76 ∷ 124 ∷ 203 ∷
    48 ∷ 128 ∷ 13 ∷ 136 ∷ 128 ∷ 135 ∷ 60 ∷ 139 ∷ 80 ∷ 243 ∷ 131 ∷ 0 ∷ 201 ∷ 84 ∷ 128 ∷ 15 ∷ 136 ∷ 112 ∷ 13 ∷ 183 ∷
    244 ∷ 8 ∷ 88 ∷ 8 ∷ 8 ∷ 8 ∷ 8 ∷ 8 ∷ 8 ∷ 128 ∷ 8 ∷ 18 ∷ 160 ∷ 172 ∷ 25 ∷ 50 ∷ 19 ∷ 201 ∷ 172 ∷ 112 ∷ 55 ∷ 47 ∷ 156 ∷
    247 ∷ 215 ∷ 3 ∷ 200 ∷ 82 ∷ 112 ∷ 0 ∷ 0 ∷ 0 ∷ 0 ∷ 0 ∷ 0 ∷ 0 ∷ 0 ∷ 0 ∷ 0 ∷ 0 ∷ 0 ∷ 0 ∷ 0 ∷ 0 ∷ 0 ∷ 0 ∷ 0 ∷ 0 ∷ 0 ∷
    0 ∷ 0 ∷ 0 ∷ 0 ∷ 0 ∷ 0 ∷ 0 ∷ 0 ∷ 0 ∷ 0 ∷ 0 ∷ 185 ∷ 83 ∷ 66 ∷ 0 ∷ 0 ∷ 0 ∷ 0 ∷ 0 ∷ 0 ∷ 0 ∷ 0 ∷ 0 ∷ 0 ∷ 0 ∷ 0 ∷ 0 ∷
    0 ∷ 0 ∷ 0 ∷ 0 ∷ 0 ∷ 0 ∷ 0 ∷ 0 ∷ 0 ∷ 0 ∷ 0 ∷ 0 ∷ 0 ∷ 0 ∷ 0 ∷ 0 ∷ 0 ∷ 0 ∷ []))
unfolding computing
vector2 = tt

vector3 : T (encodes L 128 1 8000 (pos 3 ∷ pos 0 ∷ pos 3 ∷ pos 0 ∷ negsuc 1 ∷ pos 0 ∷ negsuc 1 ∷ pos 2 ∷ negsuc 0 ∷
    pos 3 ∷ pos 3 ∷ negsuc 0 ∷ pos 1 ∷ negsuc 2 ∷ pos 0 ∷ pos 0 ∷ pos 2 ∷ pos 3 ∷ pos 0 ∷ pos 2 ∷ pos 1 ∷ negsuc 0 ∷
    pos 1 ∷ negsuc 0 ∷ pos 3 ∷ pos 2 ∷ negsuc 0 ∷ negsuc 1 ∷ negsuc 0 ∷ pos 1 ∷ pos 2 ∷ pos 3 ∷ pos 1 ∷ pos 0 ∷
    negsuc 1 ∷ negsuc 1 ∷ negsuc 2 ∷ pos 3 ∷ negsuc 0 ∷ negsuc 2 ∷ pos 2 ∷ pos 2 ∷ negsuc 0 ∷ pos 3 ∷ pos 3 ∷ pos 1 ∷
    negsuc 1 ∷ negsuc 1 ∷ negsuc 0 ∷ pos 3 ∷ pos 2 ∷ negsuc 0 ∷ negsuc 1 ∷ negsuc 0 ∷ pos 3 ∷ pos 2 ∷ negsuc 1 ∷
    pos 2 ∷ negsuc 0 ∷ negsuc 0 ∷ negsuc 0 ∷ pos 1 ∷ negsuc 0 ∷ negsuc 2 ∷ []) (83 ∷ 81 ∷ 86 ∷ 52 ∷ 3 ∷ 1 ∷ 1 ∷ 0 ∷
    64 ∷ 31 ∷ 0 ∷ 0 ∷ 64 ∷ 0 ∷ 0 ∷ 0 ∷ 1 ∷ 23 ∷ 235 ∷ 236 ∷ 84 ∷ 4 ∷ 138 ∷ 2 ∷ 64 ∷ 83 ∷ 16 ∷ 64 ∷ 9 ∷ 0 ∷ 37 ∷ 137 ∷
    149 ∷ 65 ∷ 1 ∷ 22 ∷ 0 ∷ 74 ∷ 4 ∷ 14 ∷ 9 ∷ 2 ∷ 1 ∷ 32 ∷ 7 ∷ 0 ∷ 0 ∷ 0 ∷ 0 ∷ 0 ∷ 0 ∷ 0 ∷ 0 ∷ 0 ∷ 0 ∷ 0 ∷ 0 ∷ 0 ∷ 0 ∷
    0 ∷ 0 ∷ 0 ∷ 0 ∷ 0 ∷ 0 ∷ 0 ∷ 0 ∷ 0 ∷ []))
unfolding computing
vector3 = tt

vector4 : T (encodes L 1 2 8000 (pos 0 ∷ pos 11500 ∷ []) (83 ∷ 81 ∷ 86 ∷ 52 ∷ 3 ∷ 1 ∷ 2 ∷ 0 ∷ 64 ∷ 31 ∷ 0 ∷ 0 ∷ 1 ∷
    0 ∷ 0 ∷ 0 ∷ 0 ∷ 0 ∷ 0 ∷ 0 ∷ 0 ∷ 0 ∷ 0 ∷ 0 ∷ 0 ∷ 0 ∷ 0 ∷ 0 ∷ 0 ∷ 0 ∷ 0 ∷ 0 ∷ 0 ∷ 0 ∷ 0 ∷ 0 ∷ 0 ∷ 0 ∷ 0 ∷ 0 ∷ 0 ∷
    0 ∷ 1 ∷ 82 ∷ 2 ∷ 0 ∷ 0 ∷ 0 ∷ 0 ∷ 0 ∷ 0 ∷ 0 ∷ 0 ∷ 0 ∷ 0 ∷ 0 ∷ 0 ∷ 0 ∷ 0 ∷ 0 ∷ 0 ∷ 0 ∷ 0 ∷ 0 ∷ 0 ∷ 0 ∷ 0 ∷ 0 ∷ []))
unfolding computing
vector4 = tt

vector5 : T (encodes LPlus 255 1 8000 (pos 3848 ∷ pos 1568 ∷ negsuc 17859 ∷ pos 8881 ∷ negsuc 20631 ∷ pos 2427 ∷
    pos 29863 ∷ negsuc 29605 ∷ pos 30038 ∷ negsuc 3309 ∷ pos 23379 ∷ pos 17352 ∷ pos 28935 ∷ negsuc 24738 ∷ pos 7544 ∷
    negsuc 28610 ∷ pos 20934 ∷ pos 25256 ∷ pos 4698 ∷ negsuc 20295 ∷ pos 9731 ∷ negsuc 18915 ∷ negsuc 29534 ∷
    negsuc 10700 ∷ pos 30166 ∷ negsuc 16819 ∷ negsuc 2427 ∷ negsuc 15952 ∷ negsuc 31896 ∷ pos 27868 ∷ pos 9756 ∷
    pos 32369 ∷ negsuc 30319 ∷ negsuc 9864 ∷ pos 32220 ∷ negsuc 13569 ∷ pos 15001 ∷ pos 26571 ∷ negsuc 10680 ∷
    negsuc 10412 ∷ pos 1683 ∷ pos 29663 ∷ pos 1279 ∷ pos 2527 ∷ pos 7994 ∷ pos 27882 ∷ pos 4697 ∷ negsuc 29910 ∷
    pos 22499 ∷ pos 23593 ∷ pos 22851 ∷ pos 25145 ∷ negsuc 15572 ∷ pos 5948 ∷ pos 18324 ∷ pos 27075 ∷ negsuc 23638 ∷
    pos 21961 ∷ pos 5888 ∷ pos 10087 ∷ negsuc 30198 ∷ negsuc 2853 ∷ negsuc 24758 ∷ []) (83 ∷ 81 ∷ 86 ∷ 52 ∷ 3 ∷ 2 ∷
    1 ∷ 0 ∷ 64 ∷ 31 ∷ 0 ∷ 0 ∷ 63 ∷ 0 ∷ 0 ∷ 0 ∷ 252 ∷ 88 ∷ 160 ∷ 101 ∷ 237 ∷ 251 ∷ 156 ∷ 239 ∷ 163 ∷ 191 ∷ 67 ∷ 187 ∷
    248 ∷ 121 ∷ 215 ∷ 62 ∷ 94 ∷ 154 ∷ 205 ∷ 249 ∷ 35 ∷ 112 ∷ 105 ∷ 159 ∷ 125 ∷ 17 ∷ []))
unfolding computing
vector5 = tt

vector6 : T (encodes LPlus 200 2 8000 (pos 1 ∷ pos 5120 ∷ []) (83 ∷ 81 ∷ 86 ∷ 52 ∷ 3 ∷ 2 ∷ 2 ∷ 0 ∷ 64 ∷ 31 ∷ 0 ∷ 0 ∷
    1 ∷ 0 ∷ 0 ∷ 0 ∷ 0 ∷ 0 ∷ 0 ∷ 0 ∷ 0 ∷ 0 ∷ 0 ∷ 0 ∷ 0 ∷ 0 ∷ 0 ∷ 0 ∷ 0 ∷ 0 ∷ 0 ∷ 0 ∷ 0 ∷ 0 ∷ 0 ∷ 0 ∷ 0 ∷ 0 ∷ 0 ∷ 0 ∷
    0 ∷ 0 ∷ 32 ∷ 82 ∷ 3 ∷ 0 ∷ 0 ∷ 0 ∷ 0 ∷ 0 ∷ 0 ∷ 0 ∷ 0 ∷ 0 ∷ 0 ∷ 0 ∷ 0 ∷ 0 ∷ 0 ∷ 0 ∷ 0 ∷ 0 ∷ 0 ∷ 0 ∷ 0 ∷ 0 ∷ 0 ∷ 0 ∷
    []))
unfolding computing
vector6 = tt

vector7 : T (decodes (83 ∷ 81 ∷ 86 ∷ 52 ∷ 1 ∷ 0 ∷ 2 ∷ 0 ∷ 64 ∷ 31 ∷ 0 ∷ 0 ∷ 65 ∷ 0 ∷ 0 ∷ 0 ∷ 76 ∷ 16 ∷ 235 ∷ 228 ∷
    149 ∷ 45 ∷ 222 ∷ 52 ∷ 225 ∷ 252 ∷ 199 ∷ 13 ∷ 209 ∷ 115 ∷ 69 ∷ 0 ∷ 195 ∷ 46 ∷ 156 ∷ 103 ∷ 249 ∷ 35 ∷ 175 ∷ 70 ∷
    55 ∷ 201 ∷ 236 ∷ 65 ∷ 233 ∷ 250 ∷ 39 ∷ 23 ∷ 29 ∷ 255 ∷ 88 ∷ 156 ∷ 206 ∷ 18 ∷ 120 ∷ 13 ∷ 76 ∷ 219 ∷ 88 ∷ 115 ∷ 96 ∷
    177 ∷ 95 ∷ 74 ∷ 200 ∷ 7 ∷ 57 ∷ 204 ∷ 221 ∷ 53 ∷ 8 ∷ 79 ∷ 75 ∷ 117 ∷ 192 ∷ 170 ∷ 126 ∷ 25 ∷ 210 ∷ 123 ∷ 133 ∷ 74 ∷
    114 ∷ 15 ∷ 0 ∷ 0 ∷ 0 ∷ 0 ∷ 0 ∷ 0 ∷ 0 ∷ 0 ∷ 0 ∷ 0 ∷ 0 ∷ 0 ∷ 0 ∷ 0 ∷ 0 ∷ 0 ∷ 0 ∷ 0 ∷ 0 ∷ 0 ∷ 0 ∷ 0 ∷ 0 ∷ 0 ∷ 0 ∷ 0 ∷
    0 ∷ 0 ∷ 0 ∷ 0 ∷ 0 ∷ 74 ∷ 7 ∷ 0 ∷ 0 ∷ 0 ∷ 0 ∷ 0 ∷ 0 ∷ 0 ∷ 0 ∷ 0 ∷ 0 ∷ 0 ∷ 0 ∷ 0 ∷ 0 ∷ 0 ∷ 0 ∷ 0 ∷ 0 ∷ 0 ∷ 0 ∷ 0 ∷
    0 ∷ 0 ∷ 0 ∷ 0 ∷ 0 ∷ 0 ∷ 0 ∷ 0 ∷ 0 ∷ 0 ∷ []) (pos 0 ∷ pos 0 ∷ pos 0 ∷ pos 8 ∷ pos 0 ∷ negsuc 3 ∷ negsuc 2 ∷
    negsuc 7 ∷ pos 0 ∷ negsuc 26 ∷ negsuc 6 ∷ negsuc 49 ∷ pos 3 ∷ negsuc 34 ∷ pos 0 ∷ negsuc 27 ∷ negsuc 14 ∷
    negsuc 29 ∷ negsuc 4 ∷ pos 4 ∷ negsuc 28 ∷ negsuc 51 ∷ negsuc 64 ∷ negsuc 44 ∷ negsuc 21 ∷ negsuc 105 ∷ pos 18 ∷
    negsuc 31 ∷ pos 33 ∷ negsuc 101 ∷ negsuc 28 ∷ negsuc 201 ∷ negsuc 105 ∷ negsuc 214 ∷ negsuc 260 ∷ negsuc 81 ∷
    pos 72 ∷ pos 41 ∷ negsuc 356 ∷ pos 284 ∷ negsuc 992 ∷ pos 318 ∷ negsuc 907 ∷ pos 728 ∷ negsuc 677 ∷ pos 896 ∷
    negsuc 1446 ∷ pos 539 ∷ negsuc 729 ∷ negsuc 154 ∷ pos 665 ∷ pos 939 ∷ pos 2860 ∷ pos 211 ∷ pos 5490 ∷ pos 1403 ∷
    pos 5844 ∷ pos 1243 ∷ pos 6165 ∷ negsuc 67 ∷ pos 8210 ∷ pos 2576 ∷ pos 5819 ∷ pos 2954 ∷ pos 1640 ∷ pos 1924 ∷
    pos 4488 ∷ pos 4109 ∷ negsuc 170 ∷ pos 1553 ∷ negsuc 2050 ∷ negsuc 1538 ∷ pos 6492 ∷ negsuc 6111 ∷ pos 9765 ∷
    negsuc 12807 ∷ pos 6104 ∷ negsuc 3001 ∷ negsuc 9765 ∷ pos 6134 ∷ negsuc 1220 ∷ pos 4948 ∷ pos 4328 ∷ pos 6026 ∷
    negsuc 9765 ∷ negsuc 8681 ∷ negsuc 9765 ∷ pos 10238 ∷ pos 4663 ∷ negsuc 7566 ∷ pos 9765 ∷ pos 13245 ∷ pos 9765 ∷
    pos 32767 ∷ pos 9765 ∷ pos 32767 ∷ pos 6436 ∷ pos 32767 ∷ negsuc 2644 ∷ negsuc 750 ∷ negsuc 9765 ∷ negsuc 21228 ∷
    negsuc 9765 ∷ negsuc 32767 ∷ negsuc 6103 ∷ negsuc 32767 ∷ pos 3885 ∷ pos 28668 ∷ pos 223 ∷ pos 16382 ∷
    negsuc 9765 ∷ pos 27554 ∷ negsuc 9765 ∷ pos 32767 ∷ negsuc 9765 ∷ negsuc 1087 ∷ pos 8544 ∷ negsuc 29756 ∷
    pos 9765 ∷ pos 26106 ∷ pos 9765 ∷ pos 32767 ∷ pos 9765 ∷ pos 28672 ∷ negsuc 2442 ∷ pos 10051 ∷ pos 1218 ∷
    pos 32767 ∷ negsuc 14648 ∷ pos 9508 ∷ []))
unfolding computing
vector7 = tt

vector8 : T (decode_refused (83 ∷ 81 ∷ 86 ∷ 52 ∷ 1 ∷ 0 ∷ 2 ∷ 0 ∷ 64 ∷ 31 ∷ 0 ∷ 0 ∷ 65 ∷ 0 ∷ 0 ∷ 0 ∷ 76 ∷ 16 ∷ 235 ∷
    228 ∷ 149 ∷ 45 ∷ 222 ∷ 52 ∷ 225 ∷ 252 ∷ 199 ∷ 13 ∷ 209 ∷ 115 ∷ 69 ∷ 0 ∷ 195 ∷ 46 ∷ 156 ∷ 103 ∷ 249 ∷ 35 ∷ 175 ∷
    70 ∷ 55 ∷ 201 ∷ 236 ∷ 65 ∷ 233 ∷ 250 ∷ 39 ∷ 23 ∷ 29 ∷ 255 ∷ 88 ∷ 156 ∷ 206 ∷ 18 ∷ 120 ∷ 13 ∷ 76 ∷ 219 ∷ 88 ∷ 115 ∷
    96 ∷ 177 ∷ 95 ∷ 74 ∷ 200 ∷ 7 ∷ 57 ∷ 204 ∷ 221 ∷ 53 ∷ 8 ∷ 79 ∷ 75 ∷ 117 ∷ 192 ∷ 170 ∷ 126 ∷ 25 ∷ 210 ∷ 123 ∷ 133 ∷
    74 ∷ 114 ∷ 15 ∷ 0 ∷ 0 ∷ 0 ∷ 0 ∷ 0 ∷ 0 ∷ 0 ∷ 0 ∷ 0 ∷ 0 ∷ 0 ∷ 0 ∷ 0 ∷ 0 ∷ 0 ∷ 0 ∷ 0 ∷ 0 ∷ 0 ∷ 0 ∷ 0 ∷ 0 ∷ 128 ∷ 0 ∷
    0 ∷ 0 ∷ 0 ∷ 0 ∷ 0 ∷ 0 ∷ 0 ∷ 74 ∷ 7 ∷ 0 ∷ 0 ∷ 0 ∷ 0 ∷ 0 ∷ 0 ∷ 0 ∷ 0 ∷ 0 ∷ 0 ∷ 0 ∷ 0 ∷ 0 ∷ 0 ∷ 0 ∷ 0 ∷ 0 ∷ 0 ∷ 0 ∷
    0 ∷ 0 ∷ 0 ∷ 0 ∷ 0 ∷ 0 ∷ 0 ∷ 0 ∷ 0 ∷ 0 ∷ 0 ∷ 0 ∷ []) 12 [])
unfolding computing
vector8 = tt

vector9 : T (decodes (83 ∷ 81 ∷ 86 ∷ 52 ∷ 2 ∷ 2 ∷ 1 ∷ 0 ∷ 64 ∷ 31 ∷ 0 ∷ 0 ∷ 65 ∷ 0 ∷ 0 ∷ 0 ∷ 0 ∷ 191 ∷ 71 ∷ 192 ∷
    155 ∷ 197 ∷ 136 ∷ 46 ∷ 101 ∷ 23 ∷ 196 ∷ 12 ∷ 158 ∷ 197 ∷ 223 ∷ 187 ∷ 199 ∷ 2 ∷ 202 ∷ 165 ∷ 43 ∷ 207 ∷ 124 ∷ 218 ∷
    103 ∷ 0 ∷ 4 ∷ 0 ∷ 0 ∷ 0 ∷ 0 ∷ 0 ∷ 0 ∷ 0 ∷ 0 ∷ 0 ∷ 0 ∷ 0 ∷ 0 ∷ 0 ∷ 0 ∷ 0 ∷ 0 ∷ 0 ∷ 0 ∷ 0 ∷ 0 ∷ 0 ∷ 0 ∷ 0 ∷ [])
    (pos 0 ∷ pos 0 ∷ pos 0 ∷ pos 0 ∷ pos 0 ∷ pos 0 ∷ pos 0 ∷ pos 0 ∷ pos 0 ∷ pos 0 ∷ pos 0 ∷ pos 0 ∷ pos 0 ∷ pos 0 ∷
    pos 0 ∷ pos 0 ∷ pos 0 ∷ pos 0 ∷ pos 0 ∷ pos 0 ∷ pos 0 ∷ pos 0 ∷ pos 0 ∷ pos 0 ∷ pos 0 ∷ pos 0 ∷ pos 0 ∷ pos 0 ∷
    pos 0 ∷ pos 0 ∷ pos 0 ∷ pos 0 ∷ pos 0 ∷ pos 0 ∷ pos 0 ∷ pos 0 ∷ pos 0 ∷ pos 0 ∷ pos 0 ∷ pos 0 ∷ pos 0 ∷ pos 0 ∷
    pos 0 ∷ pos 0 ∷ pos 0 ∷ pos 0 ∷ pos 0 ∷ pos 0 ∷ pos 0 ∷ pos 0 ∷ pos 0 ∷ pos 0 ∷ pos 0 ∷ pos 0 ∷ pos 0 ∷ pos 0 ∷
    pos 0 ∷ pos 0 ∷ pos 0 ∷ pos 0 ∷ pos 0 ∷ pos 0 ∷ pos 0 ∷ pos 0 ∷ pos 0 ∷ []))
unfolding computing
vector9 = tt

vector10 : T (decode_refused (83 ∷ 81 ∷ 86 ∷ 52 ∷ 3 ∷ 1 ∷ 2 ∷ 0 ∷ 64 ∷ 31 ∷ 0 ∷ 0 ∷ 128 ∷ 0 ∷ 0 ∷ 0 ∷ 0 ∷ 45 ∷ 246 ∷
    15 ∷ 80 ∷ 39 ∷ 111 ∷ 94 ∷ 86 ∷ 44 ∷ 159 ∷ 203 ∷ 195 ∷ 121 ∷ 104 ∷ 24 ∷ 185 ∷ 39 ∷ 151 ∷ 52 ∷ 72 ∷ 142 ∷ 178 ∷
    231 ∷ 183 ∷ 12 ∷ 253 ∷ 21 ∷ 176 ∷ 252 ∷ 114 ∷ 202 ∷ 230 ∷ 226 ∷ 157 ∷ 242 ∷ 65 ∷ 47 ∷ 41 ∷ 124 ∷ 127 ∷ 64 ∷ 232 ∷
    204 ∷ 107 ∷ 45 ∷ 201 ∷ 25 ∷ 40 ∷ 206 ∷ 57 ∷ 4 ∷ 0 ∷ 0 ∷ 13 ∷ 1 ∷ 67 ∷ 199 ∷ 225 ∷ 76 ∷ 109 ∷ 0 ∷ 29 ∷ 148 ∷ 181 ∷
    103 ∷ 108 ∷ 54 ∷ 52 ∷ 187 ∷ 75 ∷ 234 ∷ 95 ∷ 235 ∷ 189 ∷ 237 ∷ 65 ∷ 3 ∷ 92 ∷ 51 ∷ 139 ∷ 224 ∷ 175 ∷ 173 ∷ 22 ∷
    128 ∷ 66 ∷ 121 ∷ 213 ∷ 143 ∷ 135 ∷ 41 ∷ 88 ∷ 180 ∷ 67 ∷ 100 ∷ 167 ∷ 8 ∷ 187 ∷ 112 ∷ 190 ∷ 247 ∷ 55 ∷ 5 ∷ 255 ∷ 4 ∷
    34 ∷ 0 ∷ 0 ∷ 0 ∷ 0 ∷ 0 ∷ 0 ∷ 0 ∷ 0 ∷ 0 ∷ 0 ∷ 0 ∷ 0 ∷ 0 ∷ 0 ∷ 0 ∷ 0 ∷ 0 ∷ 0 ∷ 0 ∷ 0 ∷ 0 ∷ 0 ∷ 0 ∷ 124 ∷ 17 ∷ 12 ∷
    0 ∷ 0 ∷ 0 ∷ 0 ∷ 0 ∷ 0 ∷ 0 ∷ 0 ∷ 0 ∷ 0 ∷ 0 ∷ 0 ∷ 0 ∷ 0 ∷ 0 ∷ 0 ∷ 0 ∷ 0 ∷ 0 ∷ 0 ∷ 0 ∷ 0 ∷ 0 ∷ 203 ∷ []) 10 (172 ∷
    173 ∷ []))
unfolding computing
vector10 = tt

vector11 : T (decodes (83 ∷ 81 ∷ 86 ∷ 52 ∷ 3 ∷ 2 ∷ 1 ∷ 0 ∷ 64 ∷ 31 ∷ 0 ∷ 0 ∷ 65 ∷ 0 ∷ 0 ∷ 0 ∷ 255 ∷ 39 ∷ 143 ∷ 37 ∷
    98 ∷ 71 ∷ 161 ∷ 235 ∷ 185 ∷ 210 ∷ 207 ∷ 203 ∷ 111 ∷ 110 ∷ 31 ∷ 87 ∷ 33 ∷ 31 ∷ 50 ∷ 133 ∷ 95 ∷ 47 ∷ 143 ∷ 15 ∷ 19 ∷
    6 ∷ 255 ∷ 29 ∷ 48 ∷ 0 ∷ 0 ∷ 0 ∷ 0 ∷ 0 ∷ 0 ∷ 0 ∷ 0 ∷ 0 ∷ 0 ∷ 0 ∷ 0 ∷ 0 ∷ 0 ∷ 0 ∷ 0 ∷ 0 ∷ 0 ∷ 0 ∷ 0 ∷ 0 ∷ 0 ∷ 0 ∷
    []) (negsuc 536 ∷ negsuc 400 ∷ negsuc 647 ∷ negsuc 286 ∷ pos 242 ∷ negsuc 15 ∷ pos 219 ∷ pos 3206 ∷ negsuc 2085 ∷
    negsuc 1415 ∷ negsuc 2633 ∷ negsuc 1896 ∷ pos 112 ∷ negsuc 13616 ∷ negsuc 8404 ∷ negsuc 32767 ∷ negsuc 24575 ∷
    negsuc 32767 ∷ negsuc 20479 ∷ negsuc 12287 ∷ negsuc 20479 ∷ negsuc 32767 ∷ pos 24574 ∷ pos 12286 ∷ pos 32767 ∷
    pos 32767 ∷ negsuc 24574 ∷ negsuc 32767 ∷ negsuc 32767 ∷ negsuc 32767 ∷ pos 19372 ∷ pos 32767 ∷ negsuc 24574 ∷
    pos 32767 ∷ pos 28671 ∷ pos 32767 ∷ pos 24575 ∷ pos 32767 ∷ pos 32767 ∷ pos 32767 ∷ negsuc 24574 ∷ pos 32767 ∷
    pos 32767 ∷ pos 32767 ∷ pos 32767 ∷ pos 32767 ∷ pos 32767 ∷ pos 28671 ∷ negsuc 23468 ∷ pos 32767 ∷ pos 24575 ∷
    negsuc 32766 ∷ negsuc 20478 ∷ negsuc 32766 ∷ pos 24575 ∷ pos 20479 ∷ negsuc 31660 ∷ negsuc 23468 ∷ negsuc 27564 ∷
    negsuc 20115 ∷ negsuc 11923 ∷ negsuc 16019 ∷ negsuc 8570 ∷ pos 15 ∷ negsuc 24 ∷ []))
unfolding computing
vector11 = tt

vector12 : T (plays 1 LPlus (negsuc 32767) 88 62 (233 ∷ 196 ∷ 190 ∷ 112 ∷ 150 ∷ 159 ∷ 116 ∷ 233 ∷ 39 ∷ 238 ∷ 42 ∷
    189 ∷ 151 ∷ 165 ∷ 133 ∷ 18 ∷ 241 ∷ 228 ∷ 28 ∷ 255 ∷ 203 ∷ 208 ∷ 187 ∷ 85 ∷ 169 ∷ []) (pos 20479) 88
    (negsuc 29939 ∷ pos 4088 ∷ pos 29940 ∷ negsuc 22453 ∷ pos 29940 ∷ pos 29940 ∷ negsuc 7484 ∷ pos 29940 ∷
    negsuc 14969 ∷ pos 29940 ∷ negsuc 14969 ∷ negsuc 29939 ∷ pos 11226 ∷ pos 29940 ∷ negsuc 11226 ∷ pos 29940 ∷
    pos 29940 ∷ negsuc 11226 ∷ negsuc 29939 ∷ pos 22453 ∷ pos 29940 ∷ negsuc 7484 ∷ pos 29940 ∷ negsuc 22453 ∷
    pos 22455 ∷ negsuc 18711 ∷ negsuc 29939 ∷ negsuc 29939 ∷ pos 22453 ∷ negsuc 29939 ∷ negsuc 29939 ∷ negsuc 29939 ∷
    negsuc 29939 ∷ negsuc 29939 ∷ negsuc 29939 ∷ pos 14969 ∷ pos 29940 ∷ negsuc 7491 ∷ negsuc 29939 ∷ pos 4088 ∷
    pos 29940 ∷ negsuc 14969 ∷ pos 29940 ∷ pos 29940 ∷ negsuc 14969 ∷ pos 26197 ∷ negsuc 26196 ∷ pos 11227 ∷
    negsuc 29939 ∷ negsuc 29939 ∷ negsuc 29939 ∷ negsuc 29939 ∷ negsuc 29939 ∷ pos 7491 ∷ negsuc 29932 ∷
    negsuc 29939 ∷ pos 22453 ∷ negsuc 29939 ∷ negsuc 29939 ∷ pos 14969 ∷ negsuc 26197 ∷ pos 18712 ∷ []))
unfolding computing
vector12 = tt

vector13 : T (plays 2 H (pos 32767) 88 62 (246 ∷ 237 ∷ 111 ∷ 113 ∷ 205 ∷ 111 ∷ 220 ∷ 184 ∷ 128 ∷ 129 ∷ 153 ∷ 177 ∷
    190 ∷ 48 ∷ 120 ∷ 100 ∷ 7 ∷ 245 ∷ 18 ∷ 133 ∷ 61 ∷ 124 ∷ 69 ∷ 100 ∷ 6 ∷ 204 ∷ 134 ∷ 149 ∷ 194 ∷ 209 ∷ 249 ∷ 30 ∷
    86 ∷ []) (negsuc 20481) 87 (negsuc 11851 ∷ negsuc 31610 ∷ negsuc 31610 ∷ pos 19754 ∷ pos 31606 ∷ pos 31610 ∷
    negsuc 11851 ∷ negsuc 31610 ∷ negsuc 31610 ∷ pos 19754 ∷ negsuc 15805 ∷ negsuc 31610 ∷ negsuc 31610 ∷
    negsuc 31610 ∷ negsuc 28344 ∷ negsuc 31313 ∷ negsuc 23215 ∷ negsuc 25668 ∷ negsuc 31610 ∷ negsuc 31610 ∷
    negsuc 26079 ∷ negsuc 31610 ∷ negsuc 31610 ∷ negsuc 31610 ∷ negsuc 29157 ∷ negsuc 13541 ∷ negsuc 15569 ∷
    pos 12083 ∷ pos 31610 ∷ pos 31610 ∷ pos 31610 ∷ pos 31610 ∷ pos 31610 ∷ negsuc 27656 ∷ negsuc 7900 ∷ pos 2875 ∷
    pos 31610 ∷ pos 27660 ∷ negsuc 11859 ∷ pos 15797 ∷ negsuc 16536 ∷ pos 31610 ∷ pos 31610 ∷ pos 31610 ∷ pos 31610 ∷
    pos 31610 ∷ pos 31610 ∷ pos 31610 ∷ negsuc 723 ∷ negsuc 31610 ∷ pos 19754 ∷ pos 15803 ∷ pos 31610 ∷ pos 19758 ∷
    pos 31610 ∷ pos 2214 ∷ pos 14067 ∷ negsuc 25451 ∷ negsuc 31610 ∷ negsuc 31610 ∷ negsuc 31610 ∷ negsuc 19758 ∷ []))
unfolding computing
vector13 = tt

vector14 : T (plays 3 L (pos 0) 0 62 (12 ∷ 89 ∷ 150 ∷ 107 ∷ 101 ∷ 44 ∷ 129 ∷ 101 ∷ 81 ∷ 176 ∷ 153 ∷ 189 ∷ 45 ∷ 190 ∷
    63 ∷ 8 ∷ 192 ∷ 51 ∷ 186 ∷ 213 ∷ 20 ∷ 29 ∷ 135 ∷ 154 ∷ 217 ∷ 9 ∷ []) (pos 0) 0 (negsuc 963 ∷ pos 0 ∷ negsuc 963 ∷
    negsuc 1541 ∷ negsuc 1541 ∷ negsuc 577 ∷ pos 0 ∷ pos 1349 ∷ pos 1156 ∷ pos 631 ∷ pos 438 ∷ pos 613 ∷ pos 772 ∷
    pos 1542 ∷ pos 1542 ∷ pos 1542 ∷ pos 1542 ∷ pos 1542 ∷ pos 1542 ∷ pos 1542 ∷ pos 1542 ∷ pos 1542 ∷ pos 578 ∷
    pos 386 ∷ negsuc 139 ∷ negsuc 1489 ∷ negsuc 1541 ∷ negsuc 1541 ∷ negsuc 577 ∷ negsuc 770 ∷ negsuc 1541 ∷
    negsuc 1541 ∷ negsuc 1541 ∷ negsuc 1541 ∷ negsuc 1348 ∷ negsuc 1524 ∷ negsuc 1364 ∷ negsuc 1219 ∷ negsuc 1088 ∷
    negsuc 1541 ∷ negsuc 314 ∷ negsuc 1278 ∷ negsuc 1085 ∷ negsuc 1541 ∷ negsuc 192 ∷ pos 1156 ∷ pos 578 ∷
    negsuc 385 ∷ negsuc 577 ∷ pos 298 ∷ pos 105 ∷ negsuc 770 ∷ negsuc 192 ∷ negsuc 1156 ∷ negsuc 577 ∷ negsuc 770 ∷
    pos 105 ∷ pos 1454 ∷ pos 491 ∷ pos 298 ∷ negsuc 227 ∷ pos 1121 ∷ []))
unfolding computing
vector14 = tt
