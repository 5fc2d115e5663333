-- What is read of heads of procedures and of members of Types before a fault can be completed.
use Rattle.std.proofs.Common.{ℕ, suc, Bool, true, false, List, [], ◌∷◌, ◌++◌, Option, Some, None, refl, inl, inr}
use Rattle.fb_base.specs.declared.fault.Span.{Span}
use Rattle.fb_base.specs.declared.fault.FaultKind.TheVariants.{Expected}
use Rattle.fb_lexer.specs.declared.token.Token.{Token}
use Rattle.fb_lexer.specs.declared.token.Mark.TheVariants.{Open, Close, Plus, Comma, Dot}
use Rattle.fb_lexer.specs.declared.word.Word.TheVariants as w
use Rattle.fb_ast.specs.declared.operator.Binary.{Binary}
use Rattle.fb_ast.specs.declared.part.Item.TheVariants as item
use Rattle.fb_ast.specs.declared.part.Member.{Member}
use Rattle.fb_ast.specs.declared.part.Member.TheVariants as member
use Rattle.fb_ast.specs.declared.part.Mode.TheVariants as mode
use Rattle.fb_ast.specs.declared.part.Name.{Name}
use Rattle.parse_expr.specs.Reading.{first, next, same_mark, same_word, sees, sees_word, expect_word, refusal, Outcome, and_then}
use Rattle.parse_expr.specs.Types as types
use Rattle.parse_expr.proofs.Sound.{Done, by_test, map_done}
use Rattle.parse_expr.proofs.Fills.{Failed, map_failed}
use Rattle.parse_expr.proofs.Completed.{here as at_start, mark_token}
use Rattle.parse_parts.specs.Steps.{place_at, sees_name}
use Rattle.parse_parts.specs.Steps as steps
use Rattle.parse_parts.specs.Heads as p
use Rattle.parse_parts.specs.Members as m
use Rattle.parse_stmt.specs.Phrases.{Phrase, gives, Then, ◌>>◌, either, behind_word, word, here, name, ty}
use Rattle.parse_stmt.specs.Statements.{Chosen}
use Rattle.parse_stmt.specs.Texts as texts
use Rattle.parse_stmt.proofs.Heads.{exact_params, exact_operator, regroup}
use Rattle.parse_stmt.proofs.Starts.{Reach, over, starts_refusal}
use Rattle.parse_stmt.proofs.Likes.{any, looks_mark, looks_word, like_then, like_either, like_mark, like_word, like_here, like_name, like_type, like_listed}
use Rattle.parse_stmt.proofs.LikeParts.{done, like_behind_mark, like_behind_word, like_bounds, like_mode, like_param_name, like_param, like_some_params, like_any_params, like_one_param, like_no_params, like_overload, like_sub_head, like_function_head, like_declared_head, like_operator_mark, like_two_params}
use Rattle.parse_stmt.proofs.Grows.{Begun, Grows, grows_gives, grows_then, grows_behind, grows_choose, grows_same, grows_list, at_once, other_begun}
use Rattle.parse_stmt.proofs.GrowParts.{word_token, grows_mark, grows_word, grows_here, grows_name, grows_type, grows_optional_word, grows_any_name}
use Rattle.parse_stmt.proofs.GrowSimple.{grows_any_bounds, at_begun, grows_behind_at}

operator_stands : (r : List Token) → (a : Binary) × Chosen p.operator_at (mark_token Plus ∷ r) a r
unfolding first next
operator_stands r = (_, record { is = refl; behind = refl })

operator_fails : (reach : Reach) (ts : List Token) (o : Option Binary) → Failed (Begun reach texts.operator_mark any ts) (p.mark_by o ts)
operator_fails reach ts None = at_once texts.operator_mark any ts Expected (mark_token Plus ∷ []) (λ r c. operator_stands r) tt
operator_fails reach ts (Some which) = tt

module _ {reach : Reach} where
  -- ---- parameters and heads

  grows_mode : Grows reach p.any_mode texts.any_mode any
  unfolding p.any_mode
  grows_mode = grows_behind (sees_word w.KwByVal) (looks_word w.KwByVal) (grows_gives (Some mode.ByVal) any) (grows_behind (sees_word w.KwByRef) (looks_word w.KwByRef) (grows_gives (Some mode.ByRef) any) (grows_gives None any))

  grows_param_name : (nameless : Bool) → Grows reach (p.param_name nameless) (texts.param_name nameless) any
  grows_param_name true = grows_any_name
  grows_param_name false = (grows_then grows_name like_name
      (λ n. grows_gives _ any)
      (λ x72 y72 r72. done))

  pub grows_param : (nameless : Bool) → Grows reach (p.param nameless) (texts.param nameless) any
  unfolding p.param same_word
  grows_param nameless = (grows_then grows_here like_here
      (λ at. grows_then grows_mode like_mode
      (λ m. grows_then (grows_param_name nameless) (like_param_name nameless)
      (λ n. grows_then (grows_word w.KwAs refl) (like_word w.KwAs)
      (λ u. grows_then grows_type like_type
      (λ t. grows_gives _ any)
      (λ x77 y77 r77. done))
      (λ x76 y76 r76. like_then like_type (λ x78 y78 r78. done)))
      (λ x75 y75 r75. like_then (like_word w.KwAs) (λ x79 y79 r79. like_then like_type (λ x80 y80 r80. done))))
      (λ x74 y74 r74. like_then (like_param_name nameless) (λ x81 y81 r81. like_then (like_word w.KwAs) (λ x82 y82 r82. like_then like_type (λ x83 y83 r83. done)))))
      (λ x73 y73 r73. like_then like_mode (λ x84 y84 r84. like_then (like_param_name nameless) (λ x85 y85 r85. like_then (like_word w.KwAs) (λ x86 y86 r86. like_then like_type (λ x87 y87 r87. done))))))

  pub grows_some_params : (nameless : Bool) → Grows reach (p.some_params nameless) (texts.some_params nameless) any
  unfolding p.some_params p.param_list p.param_turn same_mark
  grows_some_params nameless = (grows_then (grows_list (grows_param nameless) (like_param nameless) (exact_params nameless).sound) (like_listed (like_param nameless))
      (λ all. grows_then (grows_mark Close refl) (like_mark Close)
      (λ u. grows_gives _ any)
      (λ x89 y89 r89. done))
      (λ x88 y88 r88. like_then (like_mark Close) (λ x90 y90 r90. done)))

  pub grows_any_params : (nameless : Bool) → Grows reach (p.any_params nameless) (texts.any_params nameless) any
  unfolding p.any_params p.params_behind
  grows_any_params nameless = grows_behind (sees Open) (looks_mark Open) (grows_behind (sees Close) (looks_mark Close) (grows_gives [] any) (grows_some_params nameless)) (grows_gives [] any)

  pub grows_one_param : (nameless : Bool) → Grows reach (p.one_param nameless) (texts.one_param nameless) any
  unfolding p.one_param same_mark
  grows_one_param nameless = (grows_then (grows_mark Open refl) (like_mark Open)
      (λ u. grows_then (grows_param nameless) (like_param nameless)
      (λ x. grows_then (grows_mark Close refl) (like_mark Close)
      (λ y. grows_gives _ any)
      (λ x93 y93 r93. done))
      (λ x92 y92 r92. like_then (like_mark Close) (λ x94 y94 r94. done)))
      (λ x91 y91 r91. like_then (like_param nameless) (λ x95 y95 r95. like_then (like_mark Close) (λ x96 y96 r96. done))))

  pub grows_no_params : Grows reach p.no_params texts.no_params any
  unfolding p.no_params same_mark
  grows_no_params = grows_behind (sees Open) (looks_mark Open) (grows_mark Close refl) (grows_gives tt any)

  grows_overload : Grows reach p.overload texts.overload any
  unfolding p.overload
  grows_overload = grows_behind (sees_word w.KwOverload) (looks_word w.KwOverload) (grows_gives true any) (grows_gives false any)

  pub grows_sub_head : (at : Span) (n : Name) (nameless : Bool) → Grows reach (p.sub_head at n nameless) (texts.sub_head at n nameless) any
  unfolding p.sub_head
  grows_sub_head at n nameless = (grows_then grows_overload like_overload
      (λ more. grows_then (grows_any_params nameless) (like_any_params nameless)
      (λ all. grows_gives _ any)
      (λ x98 y98 r98. done))
      (λ x97 y97 r97. like_then (like_any_params nameless) (λ x99 y99 r99. done)))

  pub grows_function_head : (at : Span) (n : Name) (nameless : Bool) → Grows reach (p.function_head at n nameless) (texts.function_head at n nameless) any
  unfolding p.function_head same_word
  grows_function_head at n nameless = (grows_then grows_overload like_overload
      (λ more. grows_then (grows_any_params nameless) (like_any_params nameless)
      (λ all. grows_then (grows_word w.KwAs refl) (like_word w.KwAs)
      (λ u. grows_then grows_type like_type
      (λ t. grows_gives _ any)
      (λ x103 y103 r103. done))
      (λ x102 y102 r102. like_then like_type (λ x104 y104 r104. done)))
      (λ x101 y101 r101. like_then (like_word w.KwAs) (λ x105 y105 r105. like_then like_type (λ x106 y106 r106. done))))
      (λ x100 y100 r100. like_then (like_any_params nameless) (λ x107 y107 r107. like_then (like_word w.KwAs) (λ x108 y108 r108. like_then like_type (λ x109 y109 r109. done)))))

  grows_function_or : (at : Span) → Grows reach (λ ts. and_then (and_then (expect_word w.KwFunction ts) (λ u. types.name)) (λ n. p.function_head at n true)) (word w.KwFunction >> Then name (λ n. texts.function_head at n true)) any
  unfolding same_word
  grows_function_or at = grows_same (λ ts. regroup (expect_word w.KwFunction ts) (λ u. types.name) (λ n. p.function_head at n true))
      (grows_then (grows_word w.KwFunction refl) (like_word w.KwFunction) (λ u. grows_then grows_name like_name (λ n. grows_function_head at n true) (λ n x r. like_function_head at at n x true)) (λ u x q. like_then like_name (λ n y r. like_function_head at at n y true)))

  pub grows_declared_head : Grows reach p.declared_head texts.declared_head any
  unfolding p.declared_head
  grows_declared_head = grows_then grows_here like_here
      (λ at. grows_behind (sees_word w.KwSub) (looks_word w.KwSub) (grows_then grows_name like_name (λ n. grows_sub_head at n true) (λ n x r. like_sub_head at at n x true)) (grows_function_or at))
      (λ at bt q. like_either (like_then (like_word w.KwSub) (λ u x h. like_then like_name (λ n y r. like_sub_head at bt n y true))) (like_then (like_word w.KwFunction) (λ u x h. like_then like_name (λ n y r. like_function_head at bt n y true))))

  pub grows_operator_mark : Grows reach p.operator_mark texts.operator_mark any
  unfolding p.operator_mark
  grows_operator_mark = record {
    least = mark_token Plus ∷ [];
    stands = λ r c. operator_stands r;
    fails = λ ts. operator_fails reach ts (p.operator_at (first ts));
    sound = exact_operator.sound;
  }

  pub grows_declared_operator : (at : Span) → Grows reach (p.declared_operator at) (texts.declared_operator at) any
  unfolding p.declared_operator same_mark same_word
  grows_declared_operator at = (grows_then grows_here like_here
      (λ mark_at. grows_then grows_operator_mark like_operator_mark
      (λ which. grows_then (grows_mark Open refl) (like_mark Open)
      (λ u. grows_then (grows_some_params true) (like_some_params true)
      (λ all. grows_then (grows_word w.KwAs refl) (like_word w.KwAs)
      (λ x. grows_then grows_type like_type
      (λ t. grows_gives _ any)
      (λ x115 y115 r115. done))
      (λ x114 y114 r114. like_then like_type (λ x116 y116 r116. done)))
      (λ x113 y113 r113. like_then (like_word w.KwAs) (λ x117 y117 r117. like_then like_type (λ x118 y118 r118. done))))
      (λ x112 y112 r112. like_then (like_some_params true) (λ x119 y119 r119. like_then (like_word w.KwAs) (λ x120 y120 r120. like_then like_type (λ x121 y121 r121. done)))))
      (λ x111 y111 r111. like_then (like_mark Open) (λ x122 y122 r122. like_then (like_some_params true) (λ x123 y123 r123. like_then (like_word w.KwAs) (λ x124 y124 r124. like_then like_type (λ x125 y125 r125. done))))))
      (λ x110 y110 r110. like_then like_operator_mark (λ x126 y126 r126. like_then (like_mark Open) (λ x127 y127 r127. like_then (like_some_params true) (λ x128 y128 r128. like_then (like_word w.KwAs) (λ x129 y129 r129. like_then like_type (λ x130 y130 r130. done)))))))

  pub grows_declared : (at : Span) → Grows reach (p.declared at) (either (word w.KwOperator >> texts.declared_operator at) (Then texts.declared_head (λ h. gives (item.Declare at h)))) any
  unfolding p.declared
  grows_declared at = grows_behind (sees_word w.KwOperator) (looks_word w.KwOperator) (grows_declared_operator at) (grows_then grows_declared_head like_declared_head
      (λ h. grows_gives _ any)
      (λ x131 y131 r131. done))

  -- ---- openings of procedures

  grows_any_type_there : Grows reach steps.any_type (behind_word w.KwAs ty) any
  unfolding steps.any_type
  grows_any_type_there = grows_optional_word w.KwAs grows_type like_type

  pub grows_sub_behind : (at : Span) (n : Name) → Grows reach (p.sub_behind at n) (texts.sub_behind at n) any
  unfolding p.sub_behind p.member_sub p.module_sub
  grows_sub_behind at n = grows_behind (sees Dot) (looks_mark Dot) (grows_then grows_name like_name
      (λ m. grows_then (grows_any_params false) (like_any_params false)
      (λ all. grows_then grows_any_type_there (like_behind_word w.KwAs like_type)
      (λ t. grows_gives _ any)
      (λ x134 y134 r134. done))
      (λ x133 y133 r133. like_then (like_behind_word w.KwAs like_type) (λ x135 y135 r135. done)))
      (λ x132 y132 r132. like_then (like_any_params false) (λ x136 y136 r136. like_then (like_behind_word w.KwAs like_type) (λ x137 y137 r137. done))))
      (grows_then (grows_sub_head at n false) (like_sub_head at at n n false)
      (λ h. grows_gives _ any)
      (λ x138 y138 r138. done))

  pub grows_function_behind : (at : Span) (n : Name) → Grows reach (p.function_behind at n) (texts.function_behind at n) any
  unfolding p.function_behind p.member_function p.module_function
  grows_function_behind at n = grows_behind (sees Dot) (looks_mark Dot) (grows_then grows_name like_name
      (λ m. grows_then (grows_any_params false) (like_any_params false)
      (λ all. grows_then grows_any_type_there (like_behind_word w.KwAs like_type)
      (λ t. grows_gives _ any)
      (λ x141 y141 r141. done))
      (λ x140 y140 r140. like_then (like_behind_word w.KwAs like_type) (λ x142 y142 r142. done)))
      (λ x139 y139 r139. like_then (like_any_params false) (λ x143 y143 r143. like_then (like_behind_word w.KwAs like_type) (λ x144 y144 r144. done))))
      (grows_then (grows_function_head at n false) (like_function_head at at n n false)
      (λ h. grows_gives _ any)
      (λ x145 y145 r145. done))

  pub grows_constructor : (at : Span) → Grows reach (p.constructor at) (texts.constructor at) any
  unfolding p.constructor
  grows_constructor at = (grows_then grows_name like_name
      (λ n. grows_then (grows_any_params false) (like_any_params false)
      (λ all. grows_gives _ any)
      (λ x147 y147 r147. done))
      (λ x146 y146 r146. like_then (like_any_params false) (λ x148 y148 r148. done)))

  pub grows_destructor : (at : Span) → Grows reach (p.destructor at) (texts.destructor at) any
  unfolding p.destructor
  grows_destructor at = (grows_then grows_name like_name
      (λ n. grows_then grows_no_params like_no_params
      (λ u. grows_gives _ any)
      (λ x150 y150 r150. done))
      (λ x149 y149 r149. like_then like_no_params (λ x151 y151 r151. done)))

  grows_let : (at : Span) → Grows reach (p.let_operator at) (texts.let_operator at) any
  unfolding p.let_operator same_mark same_word
  grows_let at = (grows_then grows_name like_name
      (λ n. grows_then (grows_mark Dot refl) (like_mark Dot)
      (λ u. grows_then grows_here like_here
      (λ let_at. grows_then (grows_word w.KwLet refl) (like_word w.KwLet)
      (λ x. grows_then (grows_one_param false) (like_one_param false)
      (λ q. grows_gives _ any)
      (λ x156 y156 r156. done))
      (λ x155 y155 r155. like_then (like_one_param false) (λ x157 y157 r157. done)))
      (λ x154 y154 r154. like_then (like_word w.KwLet) (λ x158 y158 r158. like_then (like_one_param false) (λ x159 y159 r159. done))))
      (λ x153 y153 r153. like_then like_here (λ x160 y160 r160. like_then (like_word w.KwLet) (λ x161 y161 r161. like_then (like_one_param false) (λ x162 y162 r162. done)))))
      (λ x152 y152 r152. like_then (like_mark Dot) (λ x163 y163 r163. like_then like_here (λ x164 y164 r164. like_then (like_word w.KwLet) (λ x165 y165 r165. like_then (like_one_param false) (λ x166 y166 r166. done))))))

  grows_two_params : Grows reach p.two_params texts.two_params any
  unfolding p.two_params same_mark
  grows_two_params = (grows_then (grows_mark Open refl) (like_mark Open)
      (λ u. grows_then (grows_param false) (like_param false)
      (λ one. grows_then (grows_mark Comma refl) (like_mark Comma)
      (λ x. grows_then (grows_param false) (like_param false)
      (λ other. grows_then (grows_mark Close refl) (like_mark Close)
      (λ y. grows_gives _ any)
      (λ x171 y171 r171. done))
      (λ x170 y170 r170. like_then (like_mark Close) (λ x172 y172 r172. done)))
      (λ x169 y169 r169. like_then (like_param false) (λ x173 y173 r173. like_then (like_mark Close) (λ x174 y174 r174. done))))
      (λ x168 y168 r168. like_then (like_mark Comma) (λ x175 y175 r175. like_then (like_param false) (λ x176 y176 r176. like_then (like_mark Close) (λ x177 y177 r177. done)))))
      (λ x167 y167 r167. like_then (like_param false) (λ x178 y178 r178. like_then (like_mark Comma) (λ x179 y179 r179. like_then (like_param false) (λ x180 y180 r180. like_then (like_mark Close) (λ x181 y181 r181. done))))))

  grows_mark_operator : (at : Span) → Grows reach (p.mark_operator at) (texts.mark_operator at) any
  unfolding p.mark_operator same_word
  grows_mark_operator at = (grows_then grows_here like_here
      (λ mark_at. grows_then grows_operator_mark like_operator_mark
      (λ which. grows_then grows_two_params like_two_params
      (λ both. grows_then (grows_word w.KwAs refl) (like_word w.KwAs)
      (λ u. grows_then grows_type like_type
      (λ t. grows_gives _ any)
      (λ x186 y186 r186. done))
      (λ x185 y185 r185. like_then like_type (λ x187 y187 r187. done)))
      (λ x184 y184 r184. like_then (like_word w.KwAs) (λ x188 y188 r188. like_then like_type (λ x189 y189 r189. done))))
      (λ x183 y183 r183. like_then like_two_params (λ x190 y190 r190. like_then (like_word w.KwAs) (λ x191 y191 r191. like_then like_type (λ x192 y192 r192. done)))))
      (λ x182 y182 r182. like_then like_operator_mark (λ x193 y193 r193. like_then like_two_params (λ x194 y194 r194. like_then (like_word w.KwAs) (λ x195 y195 r195. like_then like_type (λ x196 y196 r196. done))))))

  pub grows_operator_behind : (at : Span) → Grows reach (p.operator_behind at) (either (texts.let_operator at) (texts.mark_operator at)) any
  unfolding p.operator_behind
  grows_operator_behind at = grows_choose sees_name (grows_let at) (grows_mark_operator at)

-- ---- Types

module _ (reach : Reach) (deep : ℕ) where
  abbrev wide : ℕ
  wide = over reach (suc deep)

  grows_field : Grows reach (m.field (suc deep)) (texts.field wide) any
  unfolding m.field same_word
  grows_field = (grows_then grows_name like_name
      (λ n. grows_then (grows_any_bounds reach deep) (like_behind_mark Open (like_bounds wide))
      (λ b. grows_then (grows_word w.KwAs refl) (like_word w.KwAs)
      (λ u. grows_then grows_type like_type
      (λ t. grows_gives _ any)
      (λ x200 y200 r200. done))
      (λ x199 y199 r199. like_then like_type (λ x201 y201 r201. done)))
      (λ x198 y198 r198. like_then (like_word w.KwAs) (λ x202 y202 r202. like_then like_type (λ x203 y203 r203. done))))
      (λ x197 y197 r197. like_then (like_behind_mark Open (like_bounds wide)) (λ x204 y204 r204. like_then (like_word w.KwAs) (λ x205 y205 r205. like_then like_type (λ x206 y206 r206. done)))))

  grows_let_member : (at : Span) → Grows reach (m.let_member at) (Then here (λ let_at. Then (word w.KwLet) (λ u. Then (texts.one_param true) (λ q. gives (member.Let at let_at q))))) any
  unfolding m.let_member same_word
  grows_let_member at = (grows_then grows_here like_here
      (λ let_at. grows_then (grows_word w.KwLet refl) (like_word w.KwLet)
      (λ u. grows_then (grows_one_param true) (like_one_param true)
      (λ q. grows_gives _ any)
      (λ x209 y209 r209. done))
      (λ x208 y208 r208. like_then (like_one_param true) (λ x210 y210 r210. done)))
      (λ x207 y207 r207. like_then (like_word w.KwLet) (λ x211 y211 r211. like_then (like_one_param true) (λ x212 y212 r212. done))))

  grows_declared_member : (at : Span) → Grows reach (m.declared_member at) (texts.declared_member at) any
  unfolding m.declared_member m.constructor_member m.destructor_member m.head_member
  grows_declared_member at =
      grows_behind_at (sees_word w.KwConstructor) (looks_word w.KwConstructor) (λ word_at. (grows_then (grows_any_params true) (like_any_params true)
      (λ all. grows_gives _ any)
      (λ x213 y213 r213. done)))
      (grows_behind_at (sees_word w.KwDestructor) (looks_word w.KwDestructor) (λ word_at. (grows_then grows_no_params like_no_params
      (λ u. grows_gives _ any)
      (λ x214 y214 r214. done)))
      (grows_behind (sees_word w.KwOperator) (looks_word w.KwOperator) (grows_let_member at) (grows_then grows_declared_head like_declared_head
      (λ h. grows_gives _ any)
      (λ x215 y215 r215. done))))

  abbrev OneMember : Phrase Member
  OneMember = texts.one_member wide

  -- the shortest Declare
  declare_stands : (r : List Token) → (x : Member) × OneMember ((word_token w.KwDeclare ∷ (grows_declared_member at_start).least) ++ r) x r
  unfolding place_at sees_word first next same_word
  declare_stands r =
      let y = (grows_declared_member at_start).stands r refl in
      let x = (grows_declared_member at_start).least ++ r in
      (y.0, inl (record { given = at_start; between = word_token w.KwDeclare ∷ x; front = (refl, refl); back = record { given = tt; between = x; front = (refl, refl); back = y.1 } }))

  member_fails : (ts : List Token) → Failed (Begun reach OneMember any ts) (m.one_member (suc deep) ts)
  unfolding m.one_member
  member_fails ts =
      by_test (λ (o : Outcome Member). Failed (Begun reach OneMember any ts) o) (sees_word w.KwDeclare ts) _ _
      (λ is. map_failed (Begun reach (texts.declared_member (place_at ts)) any (next ts)) (Begun reach OneMember any ts) (m.declared_member (place_at ts) (next ts)) ((grows_declared_member (place_at ts)).fails (next ts))
      (at_begun (sees_word w.KwDeclare) texts.declared_member (texts.field wide) (looks_word w.KwDeclare) ts is))
      (λ other. by_test (λ (o : Outcome Member). Failed (Begun reach OneMember any ts) o) (sees_name ts) _ _
      (λ is. map_failed (Begun reach (texts.field wide) any ts) (Begun reach OneMember any ts) (m.field (suc deep) ts) (grows_field.fails ts)
      (other_begun (Then here (λ at. Then (word w.KwDeclare) (λ u. texts.declared_member at))) (texts.field wide) any ts))
      (λ is. at_once OneMember any ts (refusal ts) (word_token w.KwDeclare ∷ (grows_declared_member at_start).least) (λ r c. declare_stands r) (starts_refusal reach ts (word_token w.KwDeclare) (grows_declared_member at_start).least (inr (inr (inr refl))))))

  member_sound : (ts : List Token) → Done (OneMember ts) (m.one_member (suc deep) ts)
  unfolding m.one_member
  member_sound ts =
      by_test (λ (o : Outcome Member). Done (OneMember ts) o) (sees_word w.KwDeclare ts) _ _
      (λ is. map_done (texts.declared_member (place_at ts) (next ts)) (OneMember ts) (m.declared_member (place_at ts) (next ts)) ((grows_declared_member (place_at ts)).sound (next ts))
      (λ a rest s. inl (record { given = place_at ts; between = ts; front = (refl, refl); back = record { given = tt; between = next ts; front = (is, refl); back = s } })))
      (λ other. by_test (λ (o : Outcome Member). Done (OneMember ts) o) (sees_name ts) _ _ (λ is. map_done (texts.field wide ts) (OneMember ts) (m.field (suc deep) ts) (grows_field.sound ts) (λ a rest s. inr s)) (λ is. tt))

  pub grows_member : Grows reach (m.one_member (suc deep)) OneMember any
  grows_member = record { least = grows_field.least; stands = λ r c. let y = grows_field.stands r c in (y.0, inr y.1); fails = member_fails; sound = member_sound }
