pub mod PreviewExports
