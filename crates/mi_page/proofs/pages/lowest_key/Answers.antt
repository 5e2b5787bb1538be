use Rattle.std.proofs.Common.{◌≡◌, ℕ, refl, ap, ◌∙◌}
use Rattle.mi_key.specs.Keys.{key_of}
use Rattle.mi_page.proofs.pages.lowest_key.Goals as goal

zeros : key_of (record { cluster = 0; distance = 0; id = 0; birth = 0 }) ≡ 0
unfolding key_of
zeros = refl

pub returns : goal.returns
returns c = c.make.ensures.number ∙ ap (λ (i : ℕ). key_of (record { cluster = 0; distance = 0; id = i; birth = 0 })) c.in-Ok.ensures.ok.0 ∙ zeros
