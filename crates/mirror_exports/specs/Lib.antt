pub mod MirrorExports
