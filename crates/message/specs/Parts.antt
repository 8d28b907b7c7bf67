-- The parts of a message, read forward from a place, each with the place behind it; and the whole message.
use Rattle.std.specs.Prelude.{ℕ, ◌-◌, cond, ◌&&◌, List, length, Some, None, Option, ◌==◌}
use Rattle.items.specs.Fields.{bind, unsigned_at, key_at, bytes_at, map_at}
use Rattle.message.specs.declared.types.Mid.{Mid}
use Rattle.message.specs.declared.types.Cmd.{Cmd}
use Rattle.message.specs.declared.types.Auth.{Auth}
use Rattle.message.specs.declared.types.Meta.{Meta}
use Rattle.message.specs.declared.types.View.{View}
use Rattle.message.specs.Entries.{map_of, id_at, alg_at, context_at, optional, ended}

-- mid: 0 epoch, 1 counter, 2 sid, optional 3 exp
unfoldable pub mid_at : List ℕ → ℕ → Option (Mid × ℕ)
mid_at os p =
    bind (map_of 3 os p) (λ head.
    bind (key_at 0 os head.1) (λ p₀.
    bind (unsigned_at os p₀) (λ epoch.
    bind (key_at 1 os epoch.1) (λ p₁.
    bind (unsigned_at os p₁) (λ counter.
    bind (key_at 2 os counter.1) (λ p₂.
    bind (id_at os p₂) (λ sid.
    bind (optional head.0 3 unsigned_at os sid.1) (λ exp.
    ended exp.1 (record { epoch = epoch.0; counter = counter.0; sid = sid.0; exp = exp.0 }, exp.2)))))))))

-- cmd: 0 type, 1 args, optional 2 duo
unfoldable pub cmd_at : List ℕ → ℕ → Option (Cmd × ℕ)
cmd_at os p =
    bind (map_of 2 os p) (λ head.
    bind (key_at 0 os head.1) (λ p₀.
    bind (unsigned_at os p₀) (λ kind.
    bind (key_at 1 os kind.1) (λ p₁.
    bind (map_at os p₁) (λ args.
    bind (optional head.0 2 bytes_at os args.1) (λ duo.
    ended duo.1 (record { kind = kind.0; args = args.0; duo = duo.0 }, duo.2)))))))

-- auth: 0 alg, 1 kid, 2 signature, optional 3 ctx
unfoldable pub auth_at : List ℕ → ℕ → Option (Auth × ℕ)
auth_at os p =
    bind (map_of 3 os p) (λ head.
    bind (key_at 0 os head.1) (λ p₀.
    bind (alg_at os p₀) (λ alg.
    bind (key_at 1 os alg.1) (λ p₁.
    bind (id_at os p₁) (λ kid.
    bind (key_at 2 os kid.1) (λ p₂.
    bind (bytes_at os p₂) (λ signature.
    bind (optional head.0 3 context_at os signature.1) (λ ctx.
    ended ctx.1 (record { place = p; alg = alg.0; kid = kid.0; entry = kid.1; signature = signature.0; ctx = ctx.0 }, ctx.2)))))))))

-- meta: optional 0 echo
unfoldable pub meta_at : List ℕ → ℕ → Option (Meta × ℕ)
meta_at os p =
    bind (map_of 0 os p) (λ head.
    bind (optional head.0 0 context_at os head.1) (λ echo.
    ended echo.1 (record { span = record { start = p; len = echo.2 - p }; echo = echo.0 }, echo.2)))

-- from the version on: 0 version, which is 1, 1 profile, 2 mid, 3 cmd, 4 auth
unfoldable pub body_at : List ℕ → ℕ → Option ((ℕ × Mid × Cmd × Auth) × ℕ)
body_at os p =
    bind (key_at 0 os p) (λ p₀.
    bind (key_at 1 os p₀) (λ version.
    bind (key_at 1 os version) (λ p₁.
    bind (unsigned_at os p₁) (λ profile.
    bind (key_at 2 os profile.1) (λ p₂.
    bind (mid_at os p₂) (λ mid.
    bind (key_at 3 os mid.1) (λ p₃.
    bind (cmd_at os p₃) (λ cmd.
    bind (key_at 4 os cmd.1) (λ p₄.
    bind (auth_at os p₄) (λ auth.
    Some ((profile.0, mid.0, cmd.0, auth.0), auth.1)))))))))))

-- the message, which the octets end with: optional 5 meta, 6 ext behind the rest
unfoldable pub view_of : List ℕ → Option View
view_of os =
    bind (map_of 5 os 0) (λ head.
    bind (body_at os head.1) (λ body.
    bind (optional head.0 5 meta_at os body.1) (λ meta.
    bind (optional meta.1 6 map_at os meta.2) (λ ext.
    cond (ext.1 == 0 && ext.2 == length os)
    (Some (record { profile = body.0.0; mid = body.0.1; cmd = body.0.2; auth = body.0.3; meta = meta.0; ext = ext.0 }))
    None))))
