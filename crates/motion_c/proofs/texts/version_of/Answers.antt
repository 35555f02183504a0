-- The version of a machine's trace, by that of the text that opened it.
use Rattle.std.proofs.Common.{◌≡◌, ◌∙◌, sym, subst}
use Rattle.motion_history.specs.declared.refused.TraceVersion.{TraceVersion}
use Rattle.motion_history.specs.declared.refused.TraceVersion.TheVariants.{One, Two, Three}
use Rattle.motion_c.specs.Traces.{IsTraceVersion}
use Rattle.motion_c.proofs.Versions.{fits-three, fits-two}
use Rattle.motion_c.proofs.texts.version_of.Goals as goal

pub returns-in-Two-clause-version : goal.returns-in-Two-clause-version
returns-in-Two-clause-version c =
    fits-two c.args.opened c.trace_version.result c.args.config.now c.trace_version.ensures.version
    (λ one alike. let bad : Two ≡ One = sym c.in-Two.is ∙ one in cc)
    (λ three. let bad : Two ≡ Three = sym c.in-Two.is ∙ three in cc)

pub returns-in-Three-clause-version : goal.returns-in-Three-clause-version
returns-in-Three-clause-version c =
    subst (λ o. IsTraceVersion o c.args.config.now c.trace_version-in-Three.result) (sym c.in-Three.is)
    (fits-three c.trace_version-in-Three.result c.args.config.now c.trace_version-in-Three.ensures.version)
